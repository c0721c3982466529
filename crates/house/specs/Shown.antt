-- A SHOWN CHARACTER IS READ BACK: letter, as itself, or by its hex digits. Assumes nothing.
use Rattle.std.specs.Prelude.{◌≡◌, refl, [], ◌∷◌, ◌++◌, ◌⊎◌, Bool, true, false, ℕ, ◌≤◌, eqb}
use Rattle.std.proofs.Common.{sym, ap, subst, ◌∙◌, inl, inr, arith, le-leb}
use Rattle.std.proofs.Math.Decide.{ℕ_discrete, dec_le}
use Rattle.std.proofs.lemmas.Bool.{lt-leb}
use Rattle.notation.specs.Class.{pick, ◌to◌, Class, within, is, only}
use Rattle.notation.specs.Lang.{Lang, Map, Alt}
use Rattle.exact.specs.Class.{only_is, only_no, is_right, or_left, or_right}
use Rattle.language.specs.Tree.{Decoded, unescaped}
use Rattle.language.specs.Characters.{utf8, ascii, character, Char, char}
use Rattle.language.specs.Strings.{lettered, stands_for, scalar, Escape}
use Rattle.language.specs.House.{letter, shown, hexes}
use Rattle.utf8.specs.Spelling.{utf8_one}
use Rattle.utf8.specs.OverNumbers.{within_yes}
use Rattle.house.specs.Spells.{Spells, spelt_as, one_reads, two_reads, ret_reads, seq_reads, last_reads, byte_then, word_then}
use Rattle.house.specs.Hexes.{bounds, code_number, code_reads}

-- "characters except LF, `"` and `\`"
abbrev pub others : Class
others = (32 to 33) ∷ (35 to 91) ∷ (93 to 126) ∷ []

-- an escape or a character between double quotes
abbrev pub Inner : Lang Decoded
Inner = Alt Escape (Map unescaped (Char others))

-- "Quote, backslash and the five lettered escapes are written short": v is one of these, and stands behind the backslash by a letter; or it is none
record Lettered (v : ℕ) : Type 0 where
  known : is lettered (letter v) ≡ true
  stands : stands_for (letter v) ≡ v
  some : eqb (letter v) 0 ≡ false
  low : v ≤ 127

record Bare (v : ℕ) : Type 0 where
  no_letter : eqb (letter v) 0 ≡ true
  no_quote : v ≡ 34 → ⊥
  no_backslash : v ≡ 92 → ⊥
  no_feed : v ≡ 10 → ⊥

lettered_as : {v : ℕ} (n : ℕ) → is lettered (letter n) ≡ true → stands_for (letter n) ≡ n → eqb (letter n) 0 ≡ false → n ≤ 127 → v ≡ n → Lettered v
lettered_as n a b c d e = subst Lettered (sym e) (record { known = a; stands = b; some = c; low = d })

letter_or : (v : ℕ) → Lettered v ⊎ Bare v
letter_or v = by (ℕ_discrete v 34) (ℕ_discrete v 92) (ℕ_discrete v 8) (ℕ_discrete v 12) (ℕ_discrete v 10) (ℕ_discrete v 13) (ℕ_discrete v 9)
  where
    by : Dec (v ≡ 34) → Dec (v ≡ 92) → Dec (v ≡ 8) → Dec (v ≡ 12) → Dec (v ≡ 10) → Dec (v ≡ 13) → Dec (v ≡ 9) → Lettered v ⊎ Bare v
    by (yes e) p q r s t u = inl (lettered_as 34 refl refl refl (omega arith) e)
    by (no a) (yes e) q r s t u = inl (lettered_as 92 refl refl refl (omega arith) e)
    by (no a) (no b) (yes e) r s t u = inl (lettered_as 8 refl refl refl (omega arith) e)
    by (no a) (no b) (no c) (yes e) s t u = inl (lettered_as 12 refl refl refl (omega arith) e)
    by (no a) (no b) (no c) (no d) (yes e) t u = inl (lettered_as 10 refl refl refl (omega arith) e)
    by (no a) (no b) (no c) (no d) (no f) (yes e) u = inl (lettered_as 13 refl refl refl (omega arith) e)
    by (no a) (no b) (no c) (no d) (no f) (no g) (yes e) = inl (lettered_as 9 refl refl refl (omega arith) e)
    by (no a) (no b) (no c) (no d) (no f) (no g) (no h) =
        inr
        (record {
          no_letter = rw (only_no 34 v a, only_no 92 v b, only_no 8 v c, only_no 12 v d, only_no 10 v f, only_no 13 v g, only_no 9 v h);
          no_quote = a;
          no_backslash = b;
          no_feed = f;
        })

-- what is shown in each case
shown_letter : (v : ℕ) → eqb (letter v) 0 ≡ false → shown v ≡ 92 ∷ letter v ∷ []
unfolding shown
shown_letter v e = ap (λ (c : Bool). pick c (pick (character ascii v) (utf8 v) (92 ∷ 117 ∷ 123 ∷ hexes 6 v ++ 125 ∷ [])) (92 ∷ letter v ∷ [])) e

shown_other : (v : ℕ) (c : Bool) → eqb (letter v) 0 ≡ true → character ascii v ≡ c → shown v ≡ pick c (utf8 v) (92 ∷ 117 ∷ 123 ∷ hexes 6 v ++ 125 ∷ [])
unfolding shown
shown_other v c e h =
    ap (λ (c : Bool). pick c (pick (character ascii v) (utf8 v) (92 ∷ 117 ∷ 123 ∷ hexes 6 v ++ 125 ∷ [])) (92 ∷ letter v ∷ [])) e
    ∙ ap (λ (c : Bool). pick c (utf8 v) (92 ∷ 117 ∷ 123 ∷ hexes 6 v ++ 125 ∷ [])) h

-- an allowed character that is not written letter may stand between quotes
inner_low : (v : ℕ) → Bare v → is ascii v ≡ true → is others v ≡ true
inner_low v b e = by (bounds ((32 to 126) ∷ []) 32 126 v refl (is_right (only 10) ((32 to 126) ∷ []) v (only_no 10 v b.no_feed) e)) (dec_le v 33) (dec_le v 91)
  where
    by : (32 ≤ v) × (v ≤ 126) → Dec (v ≤ 33) → Dec (v ≤ 91) → is others v ≡ true
    by r (yes x) y = or_left (is ((35 to 91) ∷ (93 to 126) ∷ []) v) (within_yes 32 33 v r.0 x)
    by r (no x) (yes y) =
        let q = b.no_quote in
        or_right (within (32 to 33) v) (or_left (is ((93 to 126) ∷ []) v) (within_yes 35 91 v (omega arith) y))
    by r (no x) (no y) =
        let q = b.no_backslash in
        or_right (within (32 to 33) v) (or_right (within (35 to 91) v) (or_left false (within_yes 93 126 v (omega arith) r.1)))

inner : (v : ℕ) → Bare v → character ascii v ≡ true → character others v ≡ true
inner v b e = by (dec_le v 127)
  where
    by : Dec (v ≤ 127) → character others v ≡ true
    by (yes x) = rw (le-leb v 127 x) (inner_low v b (rw (le-leb v 127 x) at e))
    by (no x) = rw (lt-leb v 127 (omega arith)) (rw (lt-leb v 127 (omega arith)) at e)

module _ {at : ℕ} (v : ℕ) where
  letter_reads : Lettered v → Spells Inner at (92 ∷ letter v ∷ []) (λ d. d.bytes ≡ utf8 v)
  letter_reads l =
      record {
        value = _;
        reads = one_reads (byte_then (only_is 92) (one_reads (byte_then l.known ret_reads)));
        good = ap (λ (b : ℕ). b ∷ []) l.stands ∙ sym (utf8_one v l.low);
      }

  char_reads : Bare v → character ascii v ≡ true → Spells Inner at (utf8 v) (λ d. d.bytes ≡ utf8 v)
  char_reads b e = record { value = _; reads = two_reads (last_reads (record { word = λ rest. char v (inner v b e) }) ret_reads); good = refl }

  named_reads : scalar v ≡ true → Spells Inner at (92 ∷ 117 ∷ 123 ∷ hexes 6 v ++ 125 ∷ []) (λ d. d.bytes ≡ utf8 v)
  named_reads e =
      record {
        value = _;
        reads = one_reads (byte_then (only_is 92) (two_reads (word_then (117 ∷ 123 ∷ []) (seq_reads (code_reads v e) (byte_then (only_is 125) ret_reads)))));
        good = ap utf8 (code_number v e);
      }

  -- A SHOWN CHARACTER
  pub shown_reads : scalar v ≡ true → Spells Inner at (shown v) (λ d. d.bytes ≡ utf8 v)
  shown_reads e = by (letter_or v)
    where
      other : Bare v → (c : Bool) → character ascii v ≡ c → Spells Inner at (shown v) (λ d. d.bytes ≡ utf8 v)
      other b true h = spelt_as (sym (shown_other v true b.no_letter h)) (char_reads b h)
      other b false h = spelt_as (sym (shown_other v false b.no_letter h)) (named_reads e)

      by : Lettered v ⊎ Bare v → Spells Inner at (shown v) (λ d. d.bytes ≡ utf8 v)
      by (inl l) = spelt_as (sym (shown_letter v l.some)) (letter_reads l)
      by (inr b) = other b (character ascii v) refl
