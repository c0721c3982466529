-- A CONTENT COPIED, run after run (`Copying`), where it has room (`Copied`). Assumes nothing.
use Rattle.std.specs.Prelude.{◌≡◌, refl, List, ◌++◌, ℕ, ◌+◌, ◌-◌, ◌≤◌, ◌<◌, length, take}
use Rattle.std.proofs.Common.{sym, ap, ap₂, ◌∙◌, arith, take-append-drop, length-take-le, take-take, rules}
use Rattle.std.proofs.lemmas.List.Edits.{sets}
use Rattle.std.proofs.Math.Seq.{slice}
use Rattle.rooms.specs.Stores.{sets_append}
use Rattle.views.specs.Views.{viewed, Seen, Reached, run_slice, Content}

-- a content of n bytes has room from x on, in w bytes
pub record Copied (stored starts : List ℕ) (d n x w : ℕ) : Type 0 where
  pub content_of : Content stored starts d n
  pub room : x + n ≤ w

-- the first i bytes of the content are copied
pub record Copying (stored starts : List ℕ) (d n x i : ℕ) (text text' : List ℕ) : Type 0 where
  pub asked : Copied stored starts d n x (length text)
  pub below : i ≤ n
  pub same : length text' ≡ length text
  pub holds : text' ≡ sets text x (take i (viewed stored starts d))

pub copying_start : {stored starts : List ℕ} {d n x : ℕ} {text : List ℕ} → Copied stored starts d n x (length text) → Copying stored starts d n x 0 text text
copying_start h = record { asked = h; below = omega arith; same = refl; holds = refl }

module _ {stored starts : List ℕ} {d n x i : ℕ} {text text' : List ℕ} (h : Copying stored starts d n x i text text') where
  pub copying_end : n ≤ i → text' ≡ sets text x (take n (viewed stored starts d))
  copying_end l = h.holds ∙ ap (λ (j : ℕ). sets text x (take j (viewed stored starts d))) (let e : i ≡ n = omega (arith, h.below) in e)

  module _ (l : i < n) where
    pub copying_seen : (d ≤ 34) × Seen starts d i
    copying_seen = let c = h.asked.content_of in (c.low, record { stored = stored; few = c.few; inside_view = omega (arith, c.fits) })

    module _ {place left : ℕ} (r : Reached starts d i (n - i) place left) where
      whole : (place + left ≤ length stored) × (slice i (i + left) (viewed stored starts d) ≡ slice place (place + left) stored)
      whole = let c = h.asked.content_of in run_slice stored starts d i (n - i) place left r (omega (arith, c.fits)) (omega (arith, c.fits, r.least)) left (omega arith)

      pub copying_inside : place + left ≤ length stored
      copying_inside = whole.0

      pub copying_room : x + i + left ≤ length text'
      copying_room = omega (arith, h.asked.room, h.same, r.least)

      pub copying_less : n - (i + left) < n - i
      copying_less = omega (arith, r.least, r.some (omega arith))

      pub copying_more : {text'' : List ℕ} → length text'' ≡ length text' → text'' ≡ sets text' (x + i) (slice place (place + left) stored) → Copying stored starts d n x (i + left) text text''
      copying_more {text''} e g =
          let v = viewed stored starts d in
          let c = h.asked.content_of in
          let w = whole in
          let s = slice place (place + left) stored in
          let z : take (i + left) v ≡ take i v ++ s =
          sym (take-append-drop i (take (i + left) v)) ∙ ap₂ (λ (a b : List ℕ). a ++ b) (take-take i (i + left) v (omega arith)) w.1 in
          let m : x + length (take i v) ≡ x + i = omega (arith, length-take-le i v (omega (arith, c.fits))) in
          record {
            asked = h.asked;
            below = omega (arith, r.least);
            same = e ∙ h.same;
            holds =
                g
                ∙ (ap₂ (λ (t : List ℕ) (j : ℕ). sets t j s) h.holds (sym m)
                ∙ (sym (sets_append text x (take i v) s) ∙ ap (sets text x) (sym z)));
          }

pub ruleset copying = (copying_start, copying_end, copying_seen, copying_inside, copying_room, copying_less, copying_more, rules)
