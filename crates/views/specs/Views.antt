-- A VIEW of stored bytes (`viewed`): the content of the field at one place of the content of another, and so on in; where its bytes stand (`view_byte`), and how far one behind another (`run_slice`). Assumes nothing.
use Rattle.std.specs.Prelude.{◌≡◌, refl, List, take, set}
use Rattle.std.proofs.Common.{sym, ap₂, ◌∙◌, length-set, length-take, ext_get_or, get_or-drop, get_or-take, get_or-set_same, get_or-set_other}
use Rattle.std.proofs.Math.Path.{ap, subst}
use Prim.Native.Nat.{ℕ, zero, suc, ◌+◌, ◌-◌, ◌*◌, ◌/◌, ◌%◌, ◌≤◌, ◌<◌}
use native.Mathlib.Omega.{arith}
use Rattle.std.proofs.Math.Decide.{dec_le}
use Rattle.std.proofs.Math.ListN.{length, get_or, get_or-eq_default}
use Rattle.std.proofs.Math.Seq.{slice, length-slice}
use Rattle.language.specs.Lent.{lent}
use Rattle.stored.specs.Form.{widest, inside}
use Rattle.views.specs.Joined.{within, within_out, within_byte, within_less}

-- the content of the field that stands at `starts` in each content around
pub viewed : List ℕ → List ℕ → ℕ → List ℕ
viewed stored starts zero = stored
viewed stored starts (suc d) = within (viewed stored starts d) (get_or starts d 0)

-- where byte i of it stands in the stored bytes
unfoldable pub place_of : List ℕ → ℕ → ℕ → ℕ
place_of starts zero i = i
place_of starts (suc d) i = place_of starts d (get_or starts d 0 + inside i)

pub place_file : (starts : List ℕ) (i : ℕ) → place_of starts 0 i ≡ i
unfolding place_of
place_file starts i = refl

pub view_file : (stored starts : List ℕ) → viewed stored starts 0 ≡ stored
unfolding viewed
view_file stored starts = refl

pub view_deeper : (stored starts : List ℕ) (d : ℕ) → viewed stored starts (d + 1) ≡ within (viewed stored starts d) (get_or starts d 0)
unfolding viewed
view_deeper stored starts d = ap (viewed stored starts) (let e : d + 1 ≡ suc d = omega arith in e)

pub view_less : (stored starts : List ℕ) (d : ℕ) → length (viewed stored starts d) ≤ length stored
unfolding viewed
view_less stored starts zero = omega arith
view_less stored starts (suc d) = let h = view_less stored starts d in let k = within_less (viewed stored starts d) (get_or starts d 0) in omega arith

-- a byte of a view is one of the view around
pub view_out : (stored starts : List ℕ) (d i : ℕ) → i < length (viewed stored starts (suc d)) → get_or starts d 0 + inside i < length (viewed stored starts d)
unfolding viewed
view_out stored starts d i l = within_out (viewed stored starts d) (get_or starts d 0) i l

pub view_place : (stored starts : List ℕ) (d i : ℕ) → i < length (viewed stored starts d) → place_of starts d i < length stored
unfolding viewed place_of
view_place stored starts zero i l = l
view_place stored starts (suc d) i l = view_place stored starts d (get_or starts d 0 + inside i) (within_out (viewed stored starts d) (get_or starts d 0) i l)

pub view_byte : (stored starts : List ℕ) (d i : ℕ) → i < length (viewed stored starts d) → get_or (viewed stored starts d) i 0 ≡ get_or stored (place_of starts d i) 0
unfolding viewed place_of
view_byte stored starts zero i l = refl
view_byte stored starts (suc d) i l =
    let v = viewed stored starts d in
    let a = get_or starts d 0 in
    within_byte v a i l ∙ view_byte stored starts d (a + inside i) (within_out v a i l)

-- ---- PLACES, from a view out

-- what is asked: the byte is one of a view of few bytes
pub record Seen (starts : List ℕ) (d i : ℕ) : Type 0 where
  pub stored : List ℕ
  pub few : length stored ≤ lent
  pub inside_view : i < length (viewed stored starts d)

-- the place of the byte is that of the byte p of the view k
pub record Came (starts : List ℕ) (d i k p : ℕ) : Type 0 where
  pub stored : List ℕ
  pub few : length stored ≤ lent
  pub inside_view : p < length (viewed stored starts k)
  pub same : place_of starts k p ≡ place_of starts d i
  pub lower : k ≤ d

module _ {starts : List ℕ} {d i : ℕ} where
  pub came_start : Seen starts d i → Came starts d i d i
  came_start h = record { stored = h.stored; few = h.few; inside_view = h.inside_view; same = refl; lower = omega arith }

  module _ {k p : ℕ} (h : Came starts d i k p) where
    pub came_few : p < lent
    came_few = let l = view_less h.stored starts k in omega (arith, h.few, h.inside_view)

    pub came_end : k ≤ 0 → p ≡ place_of starts d i
    came_end l = sym (place_file starts p) ∙ (ap (λ j. place_of starts j p) (let e : 0 ≡ k = omega arith in e) ∙ h.same)

    module _ (l : 0 < k) where
      is_suc : k ≡ suc (k - 1)
      is_suc = omega arith

      out : get_or starts (k - 1) 0 + inside p < length (viewed h.stored starts (k - 1))
      out = view_out h.stored starts (k - 1) p (subst (λ j. p < length (viewed h.stored starts j)) is_suc h.inside_view)

      pub came_next_few : {a : ℕ} → a ≡ get_or starts (k - 1) 0 → a + p + 3 * (p / 65535 + 1) < lent
      unfolding widest
      came_next_few e = let m = out in let q = view_less h.stored starts (k - 1) in omega (arith, h.few)

      pub came_next : {a q : ℕ} → a ≡ get_or starts (k - 1) 0 → q ≡ a + p + 3 * (p / 65535 + 1) → Came starts d i (k - 1) q
      unfolding widest place_of
      came_next {a} {q} e f =
          let z : q ≡ get_or starts (k - 1) 0 + inside p = omega arith in
          record {
            stored = h.stored;
            few = h.few;
            inside_view = subst (λ j. j < length (viewed h.stored starts (k - 1))) (sym z) out;
            same = ap (place_of starts (k - 1)) z ∙ (ap (λ j. place_of starts j p) (sym is_suc) ∙ h.same);
            lower = omega (arith, h.lower);
          }

pub ruleset placing = (came_start, came_few, came_end, came_next_few, came_next)

-- ---- HOW FAR one behind another

-- the bytes of the view d from i on stand as those of the view k from p on do
pub record Along (starts : List ℕ) (d i most k p left : ℕ) : Type 0 where
  pub came : Came starts d i k p
  pub same : (j : ℕ) → j < left → place_of starts d (i + j) ≡ place_of starts k (p + j)
  pub least : left ≤ most
  pub some : 0 < most → 0 < left

-- .. in the stored bytes
pub record Reached (starts : List ℕ) (d i most place left : ℕ) : Type 0 where
  pub here : place ≡ place_of starts d i
  pub same : (j : ℕ) → j < left → place_of starts d (i + j) ≡ place + j
  pub least : left ≤ most
  pub some : 0 < most → 0 < left
  pub few : place < lent

module _ {starts : List ℕ} {d i most : ℕ} where
  pub along_start : Seen starts d i → Along starts d i most d i most
  along_start h = record { came = came_start h; same = λ j l. refl; least = omega arith; some = λ l. l }

  module _ {k p left : ℕ} (h : Along starts d i most k p left) where
    pub along_few : p < lent
    along_few = came_few h.came

    pub along_low : k ≤ d
    along_low = h.came.lower

    pub along_end : k ≤ 0 → Reached starts d i most p left
    along_end l =
        let e : k ≡ 0 = omega arith in
        record {
          here = came_end h.came l;
          same = λ j m. h.same j m ∙ (ap (λ a. place_of starts a (p + j)) e ∙ place_file starts (p + j));
          least = h.least;
          some = h.some;
          few = came_few h.came;
        }

    module _ (l : 0 < k) {a : ℕ} (e : a ≡ get_or starts (k - 1) 0) where
      pub along_next_few : a + p + 3 * (p / 65535 + 1) < lent
      along_next_few = came_next_few h.came l e

      pub along_next : {q new : ℕ} → q ≡ a + p + 3 * (p / 65535 + 1) → new ≤ left → new ≤ 65535 - p % 65535 → (0 < left → 0 < new) → Along starts d i most (k - 1) q new
      unfolding widest place_of
      along_next {q} {new} f m n g =
          let z : k ≡ suc (k - 1) = omega arith in
          record {
            came = came_next h.came l e f;
            same = λ j o.
                let y : get_or starts (k - 1) 0 + inside (p + j) ≡ q + j = omega arith in
                h.same j (omega arith) ∙ (ap (λ b. place_of starts b (p + j)) z ∙ ap (place_of starts (k - 1)) y);
            least = omega (arith, h.least);
            some = λ o. g (h.some o);
          }

pub ruleset reaching = (along_start, along_few, along_end, along_next_few, along_next)

-- THE BYTES OF A RUN
pub run_slice : (stored starts : List ℕ) (d i most place left : ℕ) → Reached starts d i most place left → i < length (viewed stored starts d) → i + left ≤ length (viewed stored starts d) → (n : ℕ) → n ≤ left
    → (place + n ≤ length stored) × (slice i (i + n) (viewed stored starts d) ≡ slice place (place + n) stored)
run_slice stored starts d i most place left h u l n m = (inside_file n m, ext_get_or 0 (slice i (i + n) v) (slice place (place + n) stored) lengths bytes)
  where
    v : List ℕ
    v = viewed stored starts d

    inside_file : (n : ℕ) → n ≤ left → place + n ≤ length stored
    inside_file zero m = let q = view_place stored starts d i u in omega (arith, h.here)
    inside_file (suc j) m = let q = view_place stored starts d (i + j) (omega arith) in let r = h.same j (omega arith) in omega arith

    lengths : length (slice i (i + n) v) ≡ length (slice place (place + n) stored)
    lengths = length-slice i (i + n) v (omega arith) ∙ (omega arith ∙ sym (length-slice place (place + n) stored (inside_file n m)))

    bytes : (j : ℕ) → j < length (slice i (i + n) v) → get_or (slice i (i + n) v) j 0 ≡ get_or (slice place (place + n) stored) j 0
    bytes j o =
        let b : j < n = omega (arith, length-slice i (i + n) v (omega arith)) in
        get_or-drop i (take (i + n) v) j 0
        ∙ (get_or-take (i + n) v (i + j) 0 (omega arith)
        ∙ (view_byte stored starts d (i + j) (omega arith)
        ∙ (ap (λ a. get_or stored a 0) (h.same j (omega arith))
        ∙ sym (get_or-drop place (take (place + n) stored) j 0 ∙ get_or-take (place + n) stored (place + j) 0 (omega arith)))))

-- ---- A BYTE of a view

pub record ByteAsked (stored starts : List ℕ) (d i : ℕ) : Type 0 where
  pub low : d ≤ 34
  pub few : length stored ≤ lent
  pub inside_view : i < length (viewed stored starts d)

-- the first n bytes of a view: a content
pub record Content (stored starts : List ℕ) (d n : ℕ) : Type 0 where
  pub low : d ≤ 34
  pub few : length stored ≤ lent
  pub fits : n ≤ length (viewed stored starts d)

module _ {stored starts : List ℕ} {d i : ℕ} (h : ByteAsked stored starts d i) where
  pub asked_seen : Seen starts d i
  asked_seen = record { stored = stored; few = h.few; inside_view = h.inside_view }

  pub asked_low : d ≤ 34
  asked_low = h.low

  module _ {p : ℕ} (e : p ≡ place_of starts d i) where
    pub asked_inside : p < length stored
    asked_inside = let q = view_place stored starts d i h.inside_view in omega arith

    pub asked_byte : {b : ℕ} → b ≡ get_or stored p 0 → b ≡ get_or (viewed stored starts d) i 0
    asked_byte f = f ∙ (ap (λ a. get_or stored a 0) e ∙ sym (view_byte stored starts d i h.inside_view))

module _ {stored starts : List ℕ} {d n : ℕ} (h : Content stored starts d n) where
  pub peek_asked : {i : ℕ} → i < n → ByteAsked stored starts d i
  peek_asked l = record { low = h.low; few = h.few; inside_view = omega (arith, h.fits) }

  pub peek_byte : {i b : ℕ} → i < n → b ≡ get_or (viewed stored starts d) i 0 → b ≡ get_or (take n (viewed stored starts d)) i 0
  peek_byte {i} l e = e ∙ sym (get_or-take n (viewed stored starts d) i 0 l)

  pub peek_past : {i : ℕ} → n ≤ i → 0 ≡ get_or (take n (viewed stored starts d)) i 0
  peek_past {i} l = sym (get_or-eq_default (take n (viewed stored starts d)) 0 (omega (arith, length-take n (viewed stored starts d))))

pub ruleset asking = (asked_seen, asked_low, asked_inside, asked_byte, peek_asked, peek_byte, peek_past)

-- ---- THE NEXT VIEW IN: the same places around, and this one
pub record Deeper (starts : List ℕ) (d at : ℕ) (new : List ℕ) : Type 0 where
  pub around : (k : ℕ) → k < d → get_or new k 0 ≡ get_or starts k 0
  pub here : get_or new d 0 ≡ at

view_same : (stored starts new : List ℕ) (d : ℕ) → ((k : ℕ) → k < d → get_or new k 0 ≡ get_or starts k 0) → viewed stored new d ≡ viewed stored starts d
unfolding viewed
view_same stored starts new zero f = refl
view_same stored starts new (suc d) f = ap₂ (λ (v : List ℕ) (a : ℕ). within v a) (view_same stored starts new d (λ k l. f k (omega arith))) (f d (omega arith))

pub deeper_view : (stored : List ℕ) {starts : List ℕ} {d at : ℕ} {new : List ℕ} → Deeper starts d at new → viewed stored new (d + 1) ≡ within (viewed stored starts d) at
deeper_view stored {starts} {d} {at} {new} h = view_deeper stored new d ∙ ap₂ (λ (v : List ℕ) (a : ℕ). within v a) (view_same stored starts new d h.around) h.here

-- the first i places are copied
pub record Copied (starts s : List ℕ) (i : ℕ) : Type 0 where
  pub long : length s ≡ 34
  pub same : (k : ℕ) → k < i → get_or s k 0 ≡ get_or starts k 0

pub copied_start : {starts s : List ℕ} → length s ≡ 34 → Copied starts s 0
copied_start e = record { long = e; same = λ k l. absurd (omega arith) }

module _ {starts s : List ℕ} {i : ℕ} (h : Copied starts s i) where
  pub copied_turn : i < 34 → Copied starts (set s i (get_or starts i 0)) (i + 1)
  copied_turn l = record { long = length-set s i (get_or starts i 0) ∙ h.long; same = λ k m. by k m (dec_le i k) }
    where
      by : (k : ℕ) → k < i + 1 → Dec (i ≤ k) → get_or (set s i (get_or starts i 0)) k 0 ≡ get_or starts k 0
      by k m (yes o) =
          let e : k ≡ i = omega arith in
          ap (λ j. get_or (set s i (get_or starts i 0)) j 0) e ∙ (get_or-set_same s i (get_or starts i 0) 0 (omega (arith, h.long)) ∙ ap (λ j. get_or starts j 0) (sym e))
      by k m (no o) = get_or-set_other s i k (get_or starts i 0) 0 (λ e. omega arith) ∙ h.same k (omega arith)

  pub copied_end : {d at : ℕ} → d ≤ i → d < 34 → Deeper starts d at (set s d at)
  copied_end {d} {at} l m =
      record {
        around = λ k o. get_or-set_other s d k at 0 (λ e. omega arith) ∙ h.same k (omega arith);
        here = get_or-set_same s d at 0 (omega (arith, h.long));
      }

pub ruleset copying = (copied_start, copied_turn, copied_end)
