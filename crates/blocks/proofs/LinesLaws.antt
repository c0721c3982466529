-- LINES: one here and further ones each on n spaces, read by a look at the indentation. Exact before `lines n`; more allowance. Assumes nothing.
use Rattle.std.specs.Prelude.{◌≡◌, List, [], ◌∷◌, true, ℕ, suc}
use Rattle.std.proofs.Common.{arith}
use Rattle.language.specs.Blocks.{Lines}
use Rattle.exact.specs.Verdict.{Tail}
use Rattle.exact.specs.Class.{Class, is, apart, only}
use Rattle.exact.specs.Out.{Reader, Tame}
use Rattle.exact.specs.Lang.{Lang, Then, Fits, Exact, within_same, weaken, Ret, ret}
use Rattle.exact.specs.Comb.{seq_r, map_r, seq_tame, seq_fits, Map, map_exact, Star, nil, cons}
use Rattle.exact.specs.Ll.{ret_ll}
use Rattle.exact.specs.Block.{star_g_tame, Indented, ind, lead, lead_near}
use Rattle.exact.specs.Grow.{Sub, sub_refl, seq_sub, star_sub, indented_sub}
use Rattle.exact.specs.More.{OneMore, tame_any, steady, calm, seq_more, star_g_more, indented_more, Shuts}
use Rattle.blocktext.specs.Follow.{beyond, lines, beyond_lines}
use Rattle.blocktext.specs.Opens.{Opens}
use Rattle.blocktext.specs.Further.{further_r, further_avoids, further_keeps, further_exact}

-- what is read behind the first line
pub further_tame : {X : Type 0} {d : ℕ} {r : Reader X} (c : Class) (n : ℕ) (v : X) → Tame d r → Tame 0 (map_r (v ∷◌) (further_r c n r))
further_tame c n v m =
    tame_any (seq_tame (star_g_tame (ind (is c) n) (lead n) (lead_near n) (indented_more n (steady m)).tame₀) (λ vs. (ret_ll (v ∷ vs)).exact.moves))
