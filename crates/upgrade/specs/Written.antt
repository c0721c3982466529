-- THE NUMBERS WRITTEN: the text of an integer's row denotes the number of its digits as they are written, leading zeros and all; so ten is above nine. Assumes nothing.
use Rattle.std.specs.Prelude.{◌≡◌, refl, Bool, true, false, List, [], ◌∷◌, ℕ, zero, suc, ◌+◌, ◌*◌, ◌-◌, ◌≤◌, ◌<◌, eqb, ℤ, pos, negsuc, neg_ℤ}
use Rattle.std.proofs.Common.{sym, ap, subst, ◌∙◌, arith, eqb-true}
use Rattle.exact.specs.Class.{clash}
use Rattle.std.proofs.lemmas.Bool.{eqb-false}
use Rattle.notation.specs.Class.{pick, is}
use Rattle.language.specs.Kind.{INTEGER, ARRAY}
use Rattle.language.specs.Scalars.{digit, plain, minus, signed}
use Rattle.language.specs.Tree.{Decoded, Tree, leaf, node, Forest, more}
use Rattle.shaped.specs.Shaped.{Digits, digits_none, digits_more, Number, number}
use Rattle.integers.specs.Integer.{natural, integer}
use Rattle.upgrade.specs.Version.{Numbers, one_number, Version, version, Above}
use Rattle.upgrade.specs.Unique.{pos_one}

-- no digit is a minus
no_minus : (d : ℕ) → is digit d ≡ true → eqb d 45 ≡ false
no_minus d h = go (eqb d 45) refl
  where
    go : (b : Bool) → eqb d 45 ≡ b → eqb d 45 ≡ false
    go true e = absurd (clash (subst (λ (c : ℕ). is digit c ≡ true) (eqb-true d 45 e) h) refl)
    go false e = e

-- leading zeros add nothing
plain_number : (ds : List ℕ) → natural 0 (plain ds) ≡ natural 0 ds
unfolding plain natural
plain_number [] = refl
plain_number (d ∷ []) = refl
plain_number (d ∷ e ∷ ds) = go (eqb d 48) refl (plain_number (e ∷ ds))
  where
    go : (b : Bool) → eqb d 48 ≡ b → natural 0 (plain (e ∷ ds)) ≡ natural 0 (e ∷ ds) → natural 0 (pick b (plain (e ∷ ds)) (d ∷ e ∷ ds)) ≡ natural 0 (d ∷ e ∷ ds)
    go true h r = let k = eqb-true d 48 h in r ∙ ap (λ (n : ℕ). natural n (e ∷ ds)) (let z : 0 ≡ 10 * 0 + (d - 48) = omega arith in z)
    go false h r = refl

-- .. and leave digits
plain_digits : (ds : List ℕ) → Number ds → Number (plain ds)
unfolding plain
plain_digits [] n = elim n [ ]
plain_digits (d ∷ []) n = n
plain_digits (d ∷ e ∷ ds) (number h (digits_more g r)) = go (eqb d 48) (plain_digits (e ∷ ds) (number g r))
  where
    go : (b : Bool) → Number (plain (e ∷ ds)) → Number (pick b (plain (e ∷ ds)) (d ∷ e ∷ ds))
    go true x = x
    go false x = number h (digits_more g r)

digits_integer : {ds : List ℕ} → Number ds → integer ds ≡ pos (natural 0 ds)
unfolding integer
digits_integer (number {d = d} h r) = rw (no_minus d h)

-- without a sign, and with one
pub written : (ds : List ℕ) → Number ds → integer (signed [] ds) ≡ pos (natural 0 ds)
written ds n = digits_integer (plain_digits ds n) ∙ ap pos (plain_number ds)

-- plain digits: of which the first is 0 for zero alone
data Shape : List ℕ → Type 0 where
  nought : Shape (48 ∷ [])
  other : {d : ℕ} {ds : List ℕ} → eqb d 48 ≡ false → Shape (d ∷ ds)

plain_shape : (ds : List ℕ) → Number ds → Shape (plain ds)
unfolding plain
plain_shape [] n = elim n [ ]
plain_shape (d ∷ []) n = go (eqb d 48) refl
  where
    go : (b : Bool) → eqb d 48 ≡ b → Shape (d ∷ [])
    go true e = subst (λ (c : ℕ). Shape (c ∷ [])) (sym (eqb-true d 48 e)) nought
    go false e = other e
plain_shape (d ∷ e ∷ ds) (number h (digits_more g r)) = go (eqb d 48) refl (plain_shape (e ∷ ds) (number g r))
  where
    go : (b : Bool) → eqb d 48 ≡ b → Shape (plain (e ∷ ds)) → Shape (pick b (plain (e ∷ ds)) (d ∷ e ∷ ds))
    go true i x = x
    go false i x = other i

minus_shape : {ds : List ℕ} → Shape ds → integer (minus ds) ≡ neg_ℤ (pos (natural 0 ds))
unfolding minus integer natural
minus_shape nought = refl
minus_shape (other h) = rw h

pub written_minus : (ds : List ℕ) → Number ds → integer (signed (45 ∷ []) ds) ≡ neg_ℤ (pos (natural 0 ds))
written_minus ds n = minus_shape (plain_shape ds n) ∙ ap (λ (k : ℕ). neg_ℤ (pos k)) (plain_number ds)

-- ---- ten and nine, as texts

-- a version whose first place has this text
pub data First (s : List ℕ) : Tree → Type 0 where
  first : {a e c f g n : ℕ} {ts : Forest} → First s (node ARRAY a e c (more (leaf INTEGER f g (record { bytes = s; escapes = n })) ts))

ten_is : integer (49 ∷ 48 ∷ []) ≡ pos 10
unfolding integer natural
ten_is = refl

nine_is : integer (57 ∷ []) ≡ pos 9
unfolding integer natural
nine_is = refl

-- TEN IS ABOVE NINE, whatever follows
pub ten_above_nine : {t u : Tree} {v w : List ℕ} → First (49 ∷ 48 ∷ []) t → First (57 ∷ []) u → Version t v → Version u w → Above v w
ten_above_nine first first (version (one_number h xs) l m) (version (one_number k ys) i j) =
    let p = pos_one h ten_is in
    let q = pos_one k nine_is in
    record { at = 0; equal = λ i l. absurd (omega arith); greater = omega arith }
