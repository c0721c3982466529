-- KINDS IN THEIR PLACE: what a tree of a value looks like, by its kinds, counts and texts (01, What the reader takes and gives). Assumes nothing.
use Rattle.std.specs.Prelude.{◌≡◌, refl, [], ℕ, suc, ◌+◌, ◌≤◌, ◌<◌}
use Rattle.std.proofs.Common.{ap, arith}
use Rattle.language.specs.Kind.{NULL, TRUE, INTEGER, BYTES, ARRAY, OBJECT, KEY}
use Rattle.language.specs.Tree.{Decoded, unescaped, Tree, leaf, node, Forest, none, more}
use Rattle.spans.specs.Formed.{Pairs, no_pair, pair, trees}

pub pairs_count : {c : ℕ} {ts : Forest} → Pairs c ts → trees ts ≡ c + c
pairs_count no_pair = refl
pairs_count (pair x y z) = let h = pairs_count z in omega arith
