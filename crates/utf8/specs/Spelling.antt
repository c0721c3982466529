-- The words that end the machine are the bytes `utf8 v` of the allowed characters v, and no others: an overlong form is none. Assumes nothing.
use Rattle.std.specs.Prelude.{◌≡◌, refl, List, [], ◌∷◌, ◌⊎◌, Bool, true, false, ℕ, suc, ◌+◌, ◌-◌, ◌*◌, ◌/◌, ◌%◌, ◌≤◌, ◌<◌, leb, eqb}
use Rattle.std.proofs.Common.{sym, ap, subst, ◌∙◌, inl, inr, arith, leb-true, le-leb, eqb-true}
use Rattle.std.proofs.Math.Decide.{dec_le}
use Rattle.std.proofs.lemmas.Bool.{lt-leb}
use Rattle.exact.specs.Class.{Class, ◌to◌, pick, clash, within, is, or_of, range_of, inside}
use Rattle.exact.specs.Run.{steps, run_of, lives}
use Rattle.language.specs.Characters.{character, utf8, wide}
use Rattle.utf8.specs.Utf8.{At, leads, follow, finished, live, full, Classes, found, next, stuck, laws, start, done, dead}
use Rattle.utf8.specs.Tails.{left_of, tail_byte, begun, left_live, tail_step}
use Rattle.utf8.specs.OverNumbers.{says, through, says_yes}
use Rattle.utf8.specs.Wide.{after_two, after_three, after_four, wide_least, two_wide, three_wide, four_wide, four_long}
use Rattle.utf8.specs.States.{low_byte, lead_byte, to_state, state_two, state_three, state_four}

-- the bytes of a number, by its length
module _ (v : ℕ) where
  pub utf8_one : v ≤ 127 → utf8 v ≡ v ∷ []
  utf8_one h = rw (le-leb v 127 h) refl

  pub utf8_two : 127 < v → v ≤ 2047 → utf8 v ≡ (192 + v / 64) ∷ (128 + v % 64) ∷ []
  utf8_two l h = rw (lt-leb v 127 l, le-leb v 2047 h) refl

  pub utf8_three : 2047 < v → v ≤ 65535 → utf8 v ≡ (224 + v / 4096) ∷ (128 + v / 64 % 64) ∷ (128 + v % 64) ∷ []
  utf8_three l h = rw (lt-leb v 127 (omega arith), lt-leb v 2047 l, le-leb v 65535 h) refl

  pub utf8_four : 65535 < v → utf8 v ≡ (240 + v / 262144) ∷ (128 + v / 4096 % 64) ∷ (128 + v / 64 % 64) ∷ (128 + v % 64) ∷ []
  utf8_four l = rw (lt-leb v 127 (omega arith), lt-leb v 2047 (omega arith), lt-leb v 65535 l) refl

pub left_one : says (λ σ. eqb (left_of σ) 1) leads 194 223 ≡ true
unfolding says through
left_one = refl

pub left_two : says (λ σ. eqb (left_of σ) 2) leads 224 239 ≡ true
unfolding says through
left_two = refl

pub left_three : says (λ σ. eqb (left_of σ) 3) leads 240 244 ≡ true
unfolding says through
left_three = refl

module _ (plain : Class) where
  -- EACH CHARACTER ends the machine
  module _ (v : ℕ) where
    full_two : 127 < v → v ≤ 2047 → full (to_state plain (utf8 v)) ≡ wide v
    full_two l h =
        let n : 64 * (192 + v / 64) + (128 + v % 64 - 128) ≡ 12288 + v = omega arith in
        rw (utf8_two v l h)
        (ap full (state_two plain (192 + v / 64) (128 + v % 64) (omega arith) (omega arith) (omega arith))
        ∙ (ap (λ m. full (follow (after_two plain) m)) n ∙ two_wide plain v l h))

    full_three : 2047 < v → v ≤ 65535 → full (to_state plain (utf8 v)) ≡ wide v
    full_three l h =
        let n : 64 * (64 * (224 + v / 4096) + (128 + v / 64 % 64 - 128)) + (128 + v % 64 - 128) ≡ 917504 + v = omega arith in
        rw (utf8_three v l h)
        (ap full (state_three plain (224 + v / 4096) (128 + v / 64 % 64) (128 + v % 64) (omega arith) (omega arith) (omega arith) (omega arith) (omega arith))
        ∙ (ap (λ m. full (follow (after_three plain) m)) n ∙ three_wide plain v l h))

    full_four : 65535 < v → v ≤ 1310719 → full (to_state plain (utf8 v)) ≡ wide v
    full_four l h =
        let p : 64 * (v / 262144) + v / 4096 % 64 ≡ v / 4096 = omega arith in
        let q : 64 * (v / 4096) + v / 64 % 64 ≡ v / 64 = omega arith in
        let n : 64 * (64 * (64 * (240 + v / 262144) + (128 + v / 4096 % 64 - 128)) + (128 + v / 64 % 64 - 128)) + (128 + v % 64 - 128) ≡ 62914560 + v = omega arith in
        rw (utf8_four v l)
        (ap full
        (state_four
        plain
        (240 + v / 262144)
        (128 + v / 4096 % 64)
        (128 + v / 64 % 64)
        (128 + v % 64)
        (omega arith)
        (omega arith)
        (omega arith)
        (omega arith)
        (omega arith)
        (omega arith)
        (omega arith))
        ∙ (ap (λ m. full (follow (after_four plain) m)) n ∙ four_wide plain v l h))

    full_one : v ≤ 127 → is plain v ≡ true → full (to_state plain (utf8 v)) ≡ true
    full_one h e = rw (utf8_one v h) (ap full (low_byte plain v h ∙ ap (λ z. pick z done dead) e))

    pub utf8_full : character plain v ≡ true → full (to_state plain (utf8 v)) ≡ true
    utf8_full e = by (dec_le v 127) (dec_le v 2047) (dec_le v 65535)
      where
        is_wide : 127 < v → wide v ≡ true
        is_wide l = rw (lt-leb v 127 l) at e

        by : Dec (v ≤ 127) → Dec (v ≤ 2047) → Dec (v ≤ 65535) → full (to_state plain (utf8 v)) ≡ true
        by (yes x) y z = full_one x (rw (le-leb v 127 x) at e)
        by (no x) (yes y) z = full_two (omega arith) y ∙ is_wide (omega arith)
        by (no x) (no y) (yes z) = full_three (omega arith) z ∙ is_wide (omega arith)
        by (no x) (no y) (no z) = let w = is_wide (omega arith) in full_four (omega arith) (omega (arith, wide_least v w)) ∙ w

  -- AND NOTHING ELSE does
  pub record Spelling (w : List ℕ) : Type 0 where
    pub value : ℕ
    pub allowed : character plain value ≡ true
    pub bytes : utf8 value ≡ w

  pub steps_live : (w : List ℕ) (σ : At) → full (steps (next plain) full live σ w) ≡ true → live σ ≡ true
  steps_live w σ e = lives (next plain) full live (laws plain) (run_of (next plain) full live w σ 0 [] e)

  -- one tail byte more
  pub record Onward (σ : At) (w : List ℕ) : Type 0 where
    pub tail : ℕ
    pub more : List ℕ
    pub splits : w ≡ tail ∷ more
    pub low : 128 ≤ tail
    pub high : tail ≤ 191
    pub less : suc (left_of (next plain σ tail)) ≡ left_of σ
    pub goes : begun (next plain σ tail) ≡ true
    pub ends : full (steps (next plain) full live (next plain σ tail) more) ≡ true

  pub onward : (w : List ℕ) (σ : At) → 1 ≤ left_of σ → full (steps (next plain) full live σ w) ≡ true → Onward σ w
  onward [] σ l e = absurd (clash e (ap finished (left_live σ l)))
  onward (b ∷ w) σ l e = by (or_of (within (128 to 191) b) false t.0)
    where
      t : (is tail_byte b ≡ true) × (suc (left_of (next plain σ b)) ≡ left_of σ) × (begun (next plain σ b) ≡ true)
      t = tail_step plain σ b l (steps_live w (next plain σ b) e)

      by : (within (128 to 191) b ≡ true) ⊎ (false ≡ true) → Onward σ (b ∷ w)
      by (inl x) =
          let r = range_of 128 191 b x in
          record { tail = b; more = w; splits = refl; low = r.0; high = r.1; less = t.1; goes = t.2; ends = e }
      by (inr x) = absurd (clash x refl)

  pub at_last : (w : List ℕ) (σ : At) → begun σ ≡ true → left_of σ ≡ 0 → full (steps (next plain) full live σ w) ≡ true → w ≡ []
  at_last [] σ g l e = refl
  at_last (b ∷ w) σ g l e = absurd (by (or_of (full σ) (leb 1 (left_of σ)) g))
    where
      by : (full σ ≡ true) ⊎ (leb 1 (left_of σ) ≡ true) → ⊥
      by (inl x) = clash x (ap finished (stuck plain σ b (steps_live w (next plain σ b) e)))
      by (inr x) = omega (arith, leb-true 1 (left_of σ) x)

  pub character_wide : (v : ℕ) → 127 < v → wide v ≡ true → character plain v ≡ true
  character_wide v l e = rw (lt-leb v 127 l) e

  tail_of : (n b : ℕ) → 128 ≤ b → b ≤ 191 → 128 + (64 * n + (b - 128)) % 64 ≡ b
  tail_of n b l h = omega arith

  spelling_two : (a b v : ℕ) → 194 ≤ a → a ≤ 223 → 128 ≤ b → b ≤ 191 → v ≡ 64 * (a - 192) + (b - 128) → full (to_state plain (a ∷ b ∷ [])) ≡ true → Spelling (a ∷ b ∷ [])
  spelling_two a b v la ha lb hb d e =
      let n : 12288 + v ≡ 64 * a + (b - 128) = omega arith in
      let w : wide v ≡ true =
      sym (two_wide plain v (omega arith) (omega arith)) ∙ (ap (λ m. full (follow (after_two plain) m)) n ∙ (ap full (sym (state_two plain a b (omega arith) lb hb)) ∙ e)) in
      let p : 192 + v / 64 ≡ a = omega arith in
      let q : 128 + v % 64 ≡ b = omega arith in
      record { value = v; allowed = character_wide v (omega arith) w; bytes = utf8_two v (omega arith) (omega arith) ∙ cc }

  spelling_four : (a b c d v : ℕ) → 240 ≤ a → a ≤ 244 → 128 ≤ b → b ≤ 191 → 128 ≤ c → c ≤ 191 → 128 ≤ d → d ≤ 191
      → v ≡ 262144 * (a - 240) + 4096 * (b - 128) + 64 * (c - 128) + (d - 128)
      → full (to_state plain (a ∷ b ∷ c ∷ d ∷ [])) ≡ true → Spelling (a ∷ b ∷ c ∷ d ∷ [])
  spelling_four a b c d v la ha lb hb lc hc ld hd g e =
      let n : 62914560 + v ≡ 64 * (64 * (64 * a + (b - 128)) + (c - 128)) + (d - 128) = omega arith in
      let f : full (follow (after_four plain) (62914560 + v)) ≡ true =
      ap (λ m. full (follow (after_four plain) m)) n ∙ (ap full (sym (state_four plain a b c d (omega arith) lb hb lc hc ld hd)) ∙ e) in
      let l = longer f (dec_le v 65535) in
      let i : v / 64 ≡ 64 * (64 * (a - 240) + (b - 128)) + (c - 128) = omega arith in
      let j : v / 4096 ≡ 64 * (a - 240) + (b - 128) = omega arith in
      let p : 240 + v / 262144 ≡ a = omega arith in
      let q : 128 + v / 4096 % 64 ≡ b = ap (λ m. 128 + m % 64) j ∙ tail_of (a - 240) b lb hb in
      let r : 128 + v / 64 % 64 ≡ c = ap (λ m. 128 + m % 64) i ∙ tail_of (64 * (a - 240) + (b - 128)) c lc hc in
      let s : 128 + v % 64 ≡ d = omega arith in
      record {
        value = v;
        allowed = character_wide v (omega arith) (sym (four_wide plain v l (omega arith)) ∙ f);
        bytes = utf8_four v l ∙ cc;
      }
    where
      longer : full (follow (after_four plain) (62914560 + v)) ≡ true → Dec (v ≤ 65535) → 65535 < v
      longer f (yes x) = absurd (clash f (four_long plain v x))
      longer f (no x) = omega arith

  module _ (a : ℕ) (w : List ℕ) (e : full (to_state plain (a ∷ w)) ≡ true) where
    pub spell_low : a ≤ 127 → Spelling (a ∷ w)
    spell_low h = by (is plain a) refl (subst (λ σ. full (steps (next plain) full live σ w) ≡ true) (low_byte plain a h) e)
      where
        by : (x : Bool) → is plain a ≡ x → full (steps (next plain) full live (pick x done dead) w) ≡ true → Spelling (a ∷ w)
        by true x f = record { value = a; allowed = rw (le-leb a 127 h) x; bytes = utf8_one a h ∙ ap (a ∷◌) (sym (at_last w done refl refl f)) }
        by false x f = absurd (clash (steps_live w dead f) refl)

    pub lead_left : (k l h : ℕ) → says (λ σ. eqb (left_of σ) k) leads l h ≡ true → 128 ≤ a → l ≤ a → a ≤ h → left_of (next plain start a) ≡ k
    lead_left k l h s m x y = ap left_of (lead_byte plain a m) ∙ eqb-true (left_of (follow leads a)) k (says_yes a (λ σ. eqb (left_of σ) k) leads l h s x y)

    abbrev pub lead : At
    lead = next plain start a

    pub spelt_as : (u : List ℕ) → w ≡ u → (full (to_state plain (a ∷ u)) ≡ true → Spelling (a ∷ u)) → Spelling (a ∷ w)
    spelt_as u f k = subst (λ v. Spelling (a ∷ v)) (sym f) (k (subst (λ v. full (to_state plain (a ∷ v)) ≡ true) f e))

    pub by_two : 194 ≤ a → a ≤ 223 → left_of lead ≡ 1 → Onward lead w → Spelling (a ∷ w)
    by_two l h n o =
        let z = at_last o.more (next plain lead o.tail) o.goes (omega (arith, o.less)) o.ends in
        spelt_as
        (o.tail ∷ [])
        (o.splits ∙ ap (o.tail ∷◌) z)
        (spelling_two a o.tail (64 * (a - 192) + (o.tail - 128)) l h o.low o.high refl)

    by_four : 240 ≤ a → a ≤ 244 → left_of lead ≡ 3 → (o : Onward lead w) → (p : Onward (next plain lead o.tail) o.more)
        → Onward (next plain (next plain lead o.tail) p.tail) p.more → Spelling (a ∷ w)
    by_four l h n o p q =
        let z =
        at_last
        q.more
        (next plain (next plain (next plain lead o.tail) p.tail) q.tail)
        q.goes
        (omega (arith, o.less, p.less, q.less))
        q.ends in
        spelt_as
        (o.tail ∷ p.tail ∷ q.tail ∷ [])
        (o.splits ∙ ap (o.tail ∷◌) (p.splits ∙ ap (p.tail ∷◌) (q.splits ∙ ap (q.tail ∷◌) z)))
        (spelling_four
        a
        o.tail
        p.tail
        q.tail
        (262144 * (a - 240) + 4096 * (o.tail - 128) + 64 * (p.tail - 128) + (q.tail - 128))
        l
        h
        o.low
        o.high
        p.low
        p.high
        q.low
        q.high
        refl)

    -- one byte after another
    pub third : (o : Onward lead w) → 2 ≤ left_of lead → Onward (next plain lead o.tail) o.more
    third o n = onward o.more (next plain lead o.tail) (omega (arith, o.less)) o.ends

    fourth : (o : Onward lead w) (p : Onward (next plain lead o.tail) o.more) → 3 ≤ left_of lead → Onward (next plain (next plain lead o.tail) p.tail) p.more
    fourth o p n = onward p.more (next plain (next plain lead o.tail) p.tail) (omega (arith, o.less, p.less)) p.ends

    four_from : 240 ≤ a → a ≤ 244 → left_of lead ≡ 3 → (o : Onward lead w) → Onward (next plain lead o.tail) o.more → Spelling (a ∷ w)
    four_from l h n o p = by_four l h n o p (fourth o p (omega arith))

    pub spell_two : 194 ≤ a → a ≤ 223 → Spelling (a ∷ w)
    spell_two l h = let n = lead_left 1 194 223 left_one (omega arith) l h in by_two l h n (onward w lead (omega arith) e)

    pub spell_four : 240 ≤ a → a ≤ 244 → Spelling (a ∷ w)
    spell_four l h =
        let n = lead_left 3 240 244 left_three (omega arith) l h in
        let o = onward w lead (omega arith) e in
        four_from l h n o (third o (omega arith))
