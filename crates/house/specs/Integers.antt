-- INTEGERS: the text of an integer is read back as it is. Assumes nothing.
use Rattle.std.specs.Prelude.{◌≡◌, Bool, true, false, ◌&&◌, eqb, leb}
use Rattle.std.proofs.Math.Path.{refl}
use Rattle.std.proofs.Common.{sym, ap, subst, ◌∙◌, arith, leb-true, eqb-true, ne_eqb}
use mathlib.Core.List.{List, [], ◌∷◌, ◌++◌}
use Prim.Native.Nat.{ℕ, ◌+◌, ◌≤◌}
use Rattle.std.proofs.Math.ListN.{length}
use Rattle.notation.specs.Class.{pick, is}
use Rattle.exact.specs.Class.{clash, or_left}
use Rattle.language.specs.Kind.{INTEGER}
use Rattle.language.specs.Tree.{unescaped, leaf}
use Rattle.language.specs.Scalars
use Rattle.language.specs.Scalars.{plain, signed, Integer}
use Rattle.integers.specs.Integer.{digit, digits, counting, empty, is_integer}
use Rattle.shaped.specs.Shaped.{Minus, plus, minus}
use Rattle.utf8.specs.OverNumbers.{within_yes}
use Rattle.house.specs.Spells.{Reads}
use Rattle.house.specs.Each.{All, all_none, all_more}
use Rattle.house.specs.Numbers.{digits_from, signed_reads}

both : (a b : Bool) → a && b ≡ true → (a ≡ true) × (b ≡ true)
both true b e = (refl, e)
both false b e = absurd (clash e refl)

is_digit : (b : ℕ) → leb 48 b ≡ true → leb b 57 ≡ true → is Scalars.digit b ≡ true
is_digit b l h = or_left false (within_yes 48 57 b (leb-true 48 b l) (leb-true b 57 h))

all_digits : (s : List ℕ) → digits s ≡ true → All (is Scalars.digit) s
unfolding digits digit
all_digits [] e = all_none
all_digits (b ∷ s) e =
    let x = both (leb 48 b && leb b 57) (digits s) e in
    let y = both (leb 48 b) (leb b 57) x.0 in
    all_more (is_digit b y.0 y.1) (all_digits s x.1)

-- "digits without leading zeros"
record Counts (b : ℕ) (s : List ℕ) : Type 0 where
  more : 49 ≤ b
  first : is Scalars.digit b ≡ true
  others : All (is Scalars.digit) s

counts : (b : ℕ) (s : List ℕ) → counting (b ∷ s) ≡ true → Counts b s
unfolding counting
counts b s e =
    let x = both (leb 49 b) (leb b 57 && digits s) e in
    let y = both (leb b 57) (digits s) x.1 in
    let l = leb-true 49 b x.0 in
    record { more = l; first = or_left false (within_yes 48 57 b (omega arith) (leb-true b 57 y.0)); others = all_digits s y.1 }

no_zero : (b : ℕ) → 49 ≤ b → eqb b 48 ≡ false
no_zero b h = ne_eqb b 48 (omega arith)

-- such digits are an integer's text as they stand, with a sign or without
plain_stays : (b : ℕ) (s : List ℕ) → 49 ≤ b → plain (b ∷ s) ≡ b ∷ s
unfolding plain
plain_stays b [] h = refl
plain_stays b (c ∷ s) h = rw (no_zero b h)

signed_stays : {m : List ℕ} (b : ℕ) (s : List ℕ) → 49 ≤ b → Minus m → signed m (b ∷ s) ≡ m ++ b ∷ s
unfolding Scalars.minus
signed_stays b s h plus = plain_stays b s h
signed_stays b s h minus = ap Scalars.minus (plain_stays b s h) ∙ rw (no_zero b h)

module _ (spaced : Bool) where
  counting_reads : {at : ℕ} {m : List ℕ} (b : ℕ) (s : List ℕ) → Minus m → counting (b ∷ s) ≡ true
      → Reads (Integer spaced) at (m ++ b ∷ s) (leaf INTEGER at (at + length (m ++ b ∷ s)) (unescaped (m ++ b ∷ s)))
  counting_reads b s x e =
      let c = counts b s e in
      signed_reads signed x (digits_from spaced c.first c.others) (signed_stays b s c.more x)

  pub integer_reads : {at : ℕ} (s : List ℕ) → is_integer s ≡ true → Reads (Integer spaced) at s (leaf INTEGER at (at + length s) (unescaped s))
  unfolding is_integer counting empty plain
  integer_reads [] e = absurd (clash e refl)
  integer_reads {at} (b ∷ s) e = by (eqb b 45) (eqb b 48) refl refl e
    where
      R : List ℕ → Type 0
      R s = Reads (Integer spaced) at s (leaf INTEGER at (at + length s) (unescaped s))

      less : (s : List ℕ) → counting s ≡ true → R (45 ∷ s)
      less [] h = absurd (clash h refl)
      less (c ∷ s) h = counting_reads c s minus h

      none : (s : List ℕ) → empty s ≡ true → R (48 ∷ s)
      none [] h = signed_reads signed plus (digits_from spaced refl all_none) refl
      none (c ∷ s) h = absurd (clash h refl)

      by : (x y : Bool) → eqb b 45 ≡ x → eqb b 48 ≡ y → pick x (counting s) (pick y (empty s) (counting (b ∷ s))) ≡ true → R (b ∷ s)
      by true y p q h = subst (λ (b : ℕ). R (b ∷ s)) (sym (eqb-true b 45 p)) (less s h)
      by false true p q h = subst (λ (b : ℕ). R (b ∷ s)) (sym (eqb-true b 48 q)) (none s h)
      by false false p q h = counting_reads b s plus h
