-- LINE AND COLUMN LEAD BACK: two places of equal line and column, at each of which a character begins, are one place. Assumes nothing.
use Rattle.std.specs.Prelude.{◌≡◌, List, [], ◌∷◌, ℕ, zero, suc, ◌+◌, ◌≤◌, ◌<◌, length, get_or}
use Rattle.std.proofs.Common.{sym, arith}
use Rattle.std.proofs.Math.Decide.{dec_le}
use Rattle.notation.specs.Class.{only}
use Rattle.language.specs.Lines.{tail, line_of, column_of}
use Rattle.lined.specs.Counted.{hit_below}
use Rattle.lined.specs.Between.{between, between_cut, between_less, between_most}
use Rattle.lined.specs.Places.{line_at, column_on}

-- an ASCII byte stands at p, so p lies inside
inside : (doc : List ℕ) (p : ℕ) → get_or doc p 128 < 128 → p < length doc
inside [] p h = absurd (omega arith)
inside (b ∷ s) zero h = omega arith
inside (b ∷ s) (suc p) h = let x = inside s p h in omega arith

-- so a byte below 128 does, whatever is said of places behind the end
ascii : (doc : List ℕ) (p : ℕ) → get_or doc p 128 < 128 → get_or doc p 0 < 128
ascii [] p h = absurd (omega arith)
ascii (b ∷ s) zero h = h
ascii (b ∷ s) (suc p) h = ascii s p h

module _ (doc : List ℕ) where
  -- of two places on one line the later has the greater column
  later : (p q : ℕ) → get_or doc p 128 < 128 → q ≤ length doc → line_of doc p ≡ line_of doc q → p < q → column_of doc p < column_of doc q
  later p q a l e h =
      let z : between (only 10) doc p q ≡ 0 = omega (arith, line_at doc p, line_at doc q, between_cut (only 10) doc 0 p q (omega arith) (omega arith) l) in
      omega (arith, column_on doc p q (omega arith) l z, between_less tail doc p q h l, hit_below 128 191 (get_or doc p 0) (ascii doc p a), between_most tail doc (p + 1) q l)

  pub lines_back : (p q : ℕ) → get_or doc p 128 < 128 → get_or doc q 128 < 128 → line_of doc p ≡ line_of doc q → column_of doc p ≡ column_of doc q → p ≡ q
  lines_back p q a b e f = by (dec_le p q) (dec_le q p)
    where
      by : Dec (p ≤ q) → Dec (q ≤ p) → p ≡ q
      by (yes x) (yes y) = omega arith
      by (no x) y = let k = inside doc p a in absurd (omega (arith, later q p b (omega arith) (sym e) (omega arith)))
      by (yes x) (no y) = let k = inside doc q b in absurd (omega (arith, later p q a (omega arith) e (omega arith)))
