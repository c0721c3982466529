-- The words that end the machine are the bytes `utf8 v` of the allowed characters v, and no others: an overlong form is none. Assumes nothing.
use Rattle.std.specs.Prelude.{◌≡◌, refl, List, [], ◌∷◌, ◌⊎◌, Bool, true, false, ℕ, suc, ◌+◌, ◌-◌, ◌*◌, ◌/◌, ◌%◌, ◌≤◌, ◌<◌, leb, eqb}
use Rattle.std.proofs.Common.{sym, ap, subst, ◌∙◌, inl, inr, arith, leb-true, le-leb, eqb-true}
use Rattle.std.proofs.Math.Decide.{dec_le}
use Rattle.std.proofs.lemmas.Bool.{lt-leb}
use Rattle.exact.specs.Class.{Class, ◌to◌, pick, clash, within, is, or_of, range_of, inside}
use Rattle.exact.specs.Run.{steps, run_of, lives}
use Rattle.language.specs.Characters.{character, utf8, wide}
use Rattle.utf8.specs.Utf8.{At, leads, follow, finished, live, full, Classes, found, next, stuck, laws, start, done, dead}
use Rattle.utf8.specs.Tails.{left_of, tail_byte, begun, left_live, tail_step}
use Rattle.utf8.specs.OverNumbers.{says, through, says_yes}
use Rattle.utf8.specs.Wide.{after_two, after_three, after_four, wide_least, two_wide, three_wide, four_wide, four_long}
use Rattle.utf8.proofs.WideLaws.{three_long}
use Rattle.utf8.specs.States.{low_byte, lead_byte, to_state, state_two, state_three, state_four}
use Rattle.utf8.specs.Spelling.{Onward, Spelling, at_last, character_wide, lead, lead_left, left_two, onward, spell_four, spell_low, spell_two, spelt_as, steps_live, third, utf8_three}

module _ (plain : Class) where
  spelling_three : (a b c v : ℕ) → 224 ≤ a → a ≤ 239 → 128 ≤ b → b ≤ 191 → 128 ≤ c → c ≤ 191 → v ≡ 4096 * (a - 224) + 64 * (b - 128) + (c - 128)
      → full (to_state plain (a ∷ b ∷ c ∷ [])) ≡ true → (Spelling plain) (a ∷ b ∷ c ∷ [])
  spelling_three a b c v la ha lb hb lc hc d e =
      let n : 917504 + v ≡ 64 * (64 * a + (b - 128)) + (c - 128) = omega arith in
      let f : full (follow (after_three plain) (917504 + v)) ≡ true =
      ap (λ m. full (follow (after_three plain) m)) n ∙ (ap full (sym (state_three plain a b c (omega arith) lb hb lc hc)) ∙ e) in
      let l = longer f (dec_le v 2047) in
      let p : 224 + v / 4096 ≡ a = omega arith in
      let q : 128 + v / 64 % 64 ≡ b = omega arith in
      let r : 128 + v % 64 ≡ c = omega arith in
      record {
        value = v;
        allowed = (character_wide plain) v (omega arith) (sym (three_wide plain v l (omega arith)) ∙ f);
        bytes = utf8_three v l (omega arith) ∙ cc;
      }
    where
      longer : full (follow (after_three plain) (917504 + v)) ≡ true → Dec (v ≤ 2047) → 2047 < v
      longer f (yes x) = absurd (clash f (three_long plain v x))
      longer f (no x) = omega arith

  module _ (a : ℕ) (w : List ℕ) (e : full (to_state plain (a ∷ w)) ≡ true) where
    by_three : 224 ≤ a → a ≤ 239 → left_of (lead plain a w e) ≡ 2 → (o : (Onward plain) (lead plain a w e) w) → (Onward plain) (next plain (lead plain a w e) o.tail) o.more → (Spelling plain) (a ∷ w)
    by_three l h n o p =
        let z = (at_last plain) p.more (next plain (next plain (lead plain a w e) o.tail) p.tail) p.goes (omega (arith, o.less, p.less)) p.ends in
        (spelt_as plain a w e)
        (o.tail ∷ p.tail ∷ [])
        (o.splits ∙ ap (o.tail ∷◌) (p.splits ∙ ap (p.tail ∷◌) z))
        (spelling_three a o.tail p.tail (4096 * (a - 224) + 64 * (o.tail - 128) + (p.tail - 128)) l h o.low o.high p.low p.high refl)

    spell_three : 224 ≤ a → a ≤ 239 → (Spelling plain) (a ∷ w)
    spell_three l h =
        let n = (lead_left plain a w e) 2 224 239 left_two (omega arith) l h in
        let o = (onward plain) w (lead plain a w e) (omega arith) e in
        by_three l h n o ((third plain a w e) o (omega arith))

    spell_high : 128 ≤ a → (Spelling plain) (a ∷ w)
    spell_high m = by (or_of (within (194 to 244) a) false (inside (Classes leads) ((194 to 244) ∷ []) a refl (found leads a lived)))
      where
        lived : live (follow leads a) ≡ true
        lived = subst (λ σ. live σ ≡ true) (lead_byte plain a m) ((steps_live plain) w (next plain start a) e)

        among : 194 ≤ a → a ≤ 244 → Dec (a ≤ 223) → Dec (a ≤ 239) → (Spelling plain) (a ∷ w)
        among l h (yes x) y = (spell_two plain a w e) l x
        among l h (no x) (yes y) = spell_three (omega arith) y
        among l h (no x) (no y) = (spell_four plain a w e) (omega arith) h

        by : (within (194 to 244) a ≡ true) ⊎ (false ≡ true) → (Spelling plain) (a ∷ w)
        by (inl x) = let r = range_of 194 244 a x in among r.0 r.1 (dec_le a 223) (dec_le a 239)
        by (inr x) = absurd (clash x refl)

    spell_any : Dec (a ≤ 127) → (Spelling plain) (a ∷ w)
    spell_any (yes h) = (spell_low plain a w e) h
    spell_any (no h) = spell_high (omega arith)

  pub spell : (w : List ℕ) → full (to_state plain w) ≡ true → (Spelling plain) w
  spell [] e = absurd (clash e refl)
  spell (a ∷ w) e = spell_any a w e (dec_le a 127)
