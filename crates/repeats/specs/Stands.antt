-- WHAT STANDS IN A ROOM. Assumes nothing.
use Rattle.std.specs.Prelude.{◌≡◌, List, ◌++◌, ℕ, ◌+◌, ◌≤◌, length, take, drop}
use Rattle.std.proofs.Common.{ap, ◌∙◌, append_assoc, arith, length-take, drop_at}
use Rattle.std.proofs.lemmas.List.Edits.{sets, sets-eq}

-- vs stand in l from i on
pub record Stands (l : List ℕ) (i : ℕ) (vs : List ℕ) : Type 0 where
  pub rest : List ℕ
  pub is : drop i l ≡ vs ++ rest

-- what is stored in a room with space for it stands there
pub stands_sets : (l : List ℕ) (i : ℕ) (vs : List ℕ) → i + length vs ≤ length l → Stands (sets l i vs) i vs
stands_sets l i vs h =
    record {
      rest = drop (i + length vs) l;
      is = ap (drop i) (sets-eq vs l i h ∙ append_assoc (take i l) vs (drop (i + length vs) l)) ∙ drop_at (take i l) (vs ++ drop (i + length vs) l) i (length-take i l ∙ omega arith);
    }
