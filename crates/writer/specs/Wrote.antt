-- WHAT `write` PROMISES, from what `sound` and `house` do. Assumes nothing.
use Rattle.std.specs.Prelude.{◌≡◌, refl, List, ◌++◌, Bool, true, false, ℕ, ◌+◌, ◌*◌, ◌≤◌, ◌<◌, length, drop}
use Rattle.std.proofs.Math.Path.{sym}
use Rattle.std.proofs.Common.{ap, subst, ◌∙◌, arith, rules}
use Rattle.std.proofs.lemmas.List.Edits.{sets-eq}
use Rattle.notation.specs.Class.{pick}
use Rattle.exact.specs.Class.{clash}
use Rattle.language.specs.Answered.{deepest, limit, LONG, TEXT, BADROW}
use Rattle.language.specs.Lent.{bytes_in}
use Rattle.language.specs.Sound.{Sound}
use Rattle.language.specs.House.{house}
use Rattle.language.specs.Written.{Sounded, is_sound, unsound, Written, fits, bad, long, needs}
use Rattle.shaped.specs.Holds.{profile_shaped, holds_at}
use Rattle.writer.specs.declared.TheConstants.{ROWS, BYTES}
use Rattle.writer.specs.Puts.{Puts}
use Rattle.writer.specs.Lines.{Root}
use Rattle.writer.specs.Bound.{house_most}

module _ {table : List ℕ} {rows : ℕ} {text : List ℕ} where
  -- what `sound` answers
  told_sound : {n : ℕ} → Sounded table rows text n → n ≡ 0 → Sound table rows text
  told_sound (is_sound s) e = s
  told_sound (unsound u) e = absurd (omega arith)

  told_unsound : {n : ℕ} → Sounded table rows text n → n ≡ BADROW → Sound table rows text → ⊥
  told_unsound (is_sound s) e = absurd (omega arith)
  told_unsound (unsound u) e = u

  pub yes_sound : {b : Bool} → Sounded table rows text (pick b 0 BADROW) → b ≡ true → Sound table rows text
  yes_sound {b} h e = told_sound h (ap (λ c. pick c 0 BADROW) e)

  pub not_sound : {b : Bool} → Sounded table rows text (pick b 0 BADROW) → b ≡ false → Sound table rows text → ⊥
  not_sound {b} h e = told_unsound h (ap (λ c. pick c 0 BADROW) e)

  -- a sound table has a root, with room for every byte
  pub sound_root : Sound table rows text → Root table text
  sound_root s =
      let t = s.tree in
      let h = s.holds in
      let x = profile_shaped h.profile in
      record {
        tree = t;
        deep = deepest;
        shaped = x;
        here = record { parent = 0; start = 0; rows = holds_at h; fits = omega (arith, h.rows_fit, h.count) };
        column = omega arith;
        room = omega (arith, house_most x (omega arith), h.rows_fit, h.count, h.text_fits);
      }

  module _ (s : Sound table rows text) {n : ℕ} (g : (i : Root table text) → n ≡ length (house i.tree)) where
    count : length (house s.tree) ≡ n
    unfolding sound_root
    count = sym (g (sound_root s))

    all : {m : ℕ} {out out' : List ℕ} → ((i : Root table text) → Puts (house i.tree) 0 m out out') → Puts (house s.tree) 0 m out out'
    unfolding sound_root
    all f = f (sound_root s)

    -- the bytes are counted, and are too many, or more than the output has room for
    pub wrote_long : {out : List ℕ} → limit < n → Written table rows text out LONG 0 out
    wrote_long l = long s.tree s.holds (omega (arith, count))

    pub wrote_short : {out : List ℕ} → n ≤ limit → bytes_in out < n → Written table rows text out TEXT n out
    wrote_short {out} l m = subst (λ i. Written table rows text out TEXT i out) count (needs s.tree s.holds (omega (arith, count)) (omega (arith, count)))

    -- .. or are written
    pub wrote_done : {m : ℕ} {out out' : List ℕ} → n ≤ limit → n ≤ bytes_in out → ((i : Root table text) → Puts (house i.tree) 0 m out out')
        → Written table rows text out 0 n out'
    wrote_done {out = out} {out' = out'} l k f =
        let w = house s.tree in
        let e : out' ≡ w ++ drop (length w) out = (all f).holds ∙ (sets-eq w out 0 (omega (arith, count)) ∙ ap (λ i. w ++ drop i out) (let z : 0 + length w ≡ length w = omega arith in z)) in
        subst (λ i. Written table rows text out 0 i out') count (subst (Written table rows text out 0 (length w)) (sym e) (fits s.tree s.holds (omega (arith, count)) (omega (arith, count))))

  pub wrote_bad : {out : List ℕ} → (Sound table rows text → ⊥) → Written table rows text out BADROW 0 out
  wrote_bad u = bad u

-- ---- without counting

-- whatever is written of so many rows and so much text is within the limit, and has room
pub record Room (rows : ℕ) (text out : List ℕ) : Type 0 where
  pub short : 100 * rows + 10 * length text ≤ limit
  pub fits : 100 * rows + 10 * length text ≤ bytes_in out

abbrev pub Roomy : ℕ → List ℕ → List ℕ → Bool → Type 0
Roomy rows text out b = b ≡ true → Room rows text out

module _ (rows : ℕ) (text out : List ℕ) where
  pub roomy_not : Roomy rows text out false
  roomy_not e = absurd (clash e refl)

  pub roomy_yes : (m : ℕ) → m ≡ bytes_in out → rows ≤ ROWS → length text ≤ BYTES → 100 * rows + 10 * length text ≤ m → Roomy rows text out true
  roomy_yes m f k l h e = record { short = omega arith; fits = omega arith }

pub ruleset rooming = (roomy_not, roomy_yes, rules)

-- ---- what `write` shows, once the test of soundness has answered b

module _ (table : List ℕ) (rows : ℕ) (text : List ℕ) (b : Bool) (h : Sounded table rows text (pick b 0 BADROW)) where
  pub write_bad : (out : List ℕ) → b ≡ false → Written table rows text out BADROW 0 out
  write_bad out e = wrote_bad (not_sound h e)

  module _ (e : b ≡ true) where
    pub write_root : Root table text
    write_root = sound_root (yes_sound h e)

    pub write_straight : (out : List ℕ) (c : Bool) → Roomy rows text out c → c ≡ true → (k : ℕ) (out' : List ℕ) → ((i : Root table text) → Puts (house i.tree) 0 k out out')
        → Written table rows text out 0 k out'
    write_straight out c r f k out' p =
        let s = yes_sound h e in
        let m = r f in
        let g : (i : Root table text) → k ≡ length (house i.tree) = λ i. omega (arith, (p i).ends) in
        let w = house_most (profile_shaped s.holds.profile) (omega arith) in
        let q : length (house s.tree) ≡ k = count s g in
        wrote_done s g (omega (arith, m.short, w, q, s.holds.count, s.holds.text_fits)) (omega (arith, m.fits, w, q, s.holds.count, s.holds.text_fits)) p

    module _ (n : ℕ) (g : (i : Root table text) → n ≡ length (house i.tree)) (out : List ℕ) where
      pub write_long : limit < n → Written table rows text out LONG 0 out
      write_long l = wrote_long (yes_sound h e) g l

      module _ (m : ℕ) (f : m ≡ bytes_in out) (l : n ≤ limit) where
        pub write_short : m < n → Written table rows text out TEXT n out
        write_short k = wrote_short (yes_sound h e) g l (omega arith)

        pub write_done : n ≤ m → (k : ℕ) (out' : List ℕ) → ((i : Root table text) → Puts (house i.tree) 0 k out out') → Written table rows text out 0 n out'
        write_done i k out' p = wrote_done (yes_sound h e) g l (omega arith) p

pub ruleset writing = (write_bad, write_root, write_straight, write_long, write_short, write_done, rules)
