-- One or more: exact, if one and any number of further ones are. Assumes nothing.
use Rattle.std.specs.Prelude.{List, ◌∷◌, ℕ}
use Rattle.std.proofs.Common.{arith}
use Rattle.notation.specs.Lang.{Lang, Star, Plus}
use Rattle.exact.specs.Out.{Reader}
use Rattle.exact.specs.Lang.{Follow, None, Exact, within_same, weaken}
use Rattle.exact.specs.Comb.{seq_r, map_r, seq_exact, map_exact}

abbrev pub plus_r : {X : Type 0} → Reader X → Reader (List X) → Reader (List X)
plus_r r rs = seq_r r λ v. map_r (v ∷◌) rs

pub plus_exact : {X : Type 0} {d : ℕ} {A : Lang X} {F : Follow} {r : Reader X} {rs : Reader (List X)} → Exact d A None r → Exact 0 (Star A) F rs → Exact d (Plus A) F (plus_r r rs)
plus_exact {d = d} {F = F} e es = weaken d F (omega arith) (within_same F) (seq_exact e (λ v. map_exact (v ∷◌) es) (λ v at s y at' t b g z. z))
