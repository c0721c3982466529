-- ARRAYS: items with their dashes are read exactly before what is no further item, decided by the dash and its space; more allowance.
use Rattle.std.proofs.Math.Path.{refl}
use Rattle.std.specs.Prelude.{[], ◌∷◌, ℕ, suc}
use Rattle.std.proofs.Common.{arith}
use Rattle.notation.specs.Lang.{Map}
use Rattle.language.specs.Tree.{Tree, Entry, entry, block_array}
use Rattle.language.specs.Blocks.{Dashed, Array}
use Rattle.exact.specs.Class.{only}
use Rattle.exact.specs.Out.{Reader}
use Rattle.exact.specs.Lang.{Lang, Follow, Exact, weaken}
use Rattle.exact.specs.Comb.{map_r, map_exact}
use Rattle.exact.specs.Ll.{ret_ll, here_ll, word_r, word_ll}
use Rattle.exact.specs.Grow.{Sub, sub_refl, seq_sub}
use Rattle.exact.specs.More.{OneMore, calm, seq_more, Shuts}
use Rattle.blocktext.specs.Follow.{beyond, lines, lines_beyond, beyond_lines}
use Rattle.blocktext.specs.Led.{led_r, led_exact, led_opens, led_shuts}
use Rattle.blocks.specs.First.{Opens, seq_opens}
use Rattle.blocks.specs.Lines.{lines_r, lines_exact, lines_more, lines_sub}
use Rattle.blocks.specs.Look.{Decided, seq_decided}
use Rattle.blocks.specs.KeyLook.{dash_look, dash_stop, dash_decided}

-- A DASH AND ITS ITEM
unfoldable pub dashed_r : Reader Tree → Reader Entry
dashed_r r = led_r (word_r (45 ∷ 32 ∷ [])) λ d _. map_r (entry d) r

pub dashed_exact : {I : Lang Tree} {F : Follow} {r : Reader Tree} → Exact 1 I F r → Exact 1 (Dashed I) F (dashed_r r)
unfolding dashed_r
dashed_exact e = led_exact refl refl (word_ll (45 ∷ 32 ∷ [])) λ d _. map_exact (entry d) e

dashed_opens : (I : Lang Tree) → Opens (only 45) (Dashed I)
dashed_opens I = led_opens refl refl (word_ll (45 ∷ 32 ∷ []))

dashed_shuts : (r : Reader Tree) → Shuts (only 45) (dashed_r r)
unfolding dashed_r
dashed_shuts r = led_shuts refl refl (word_ll (45 ∷ 32 ∷ [])) λ d _. map_r (entry d) r

pub dashed_decided : {I : Lang Tree} {F : Follow} {r : Reader Tree} → Exact 1 I F r → Decided dash_look dash_stop (dashed_r r)
unfolding dashed_r
dashed_decided e = dash_decided λ d. (map_exact (entry d) e).moves

dashed_more : {r₀ r₁ r₂ : Reader Tree} → OneMore r₀ r₁ r₂ → OneMore (dashed_r r₀) (dashed_r r₁) (dashed_r r₂)
unfolding dashed_r
dashed_more e = seq_more (calm here_ll) λ d. seq_more (calm (word_ll (45 ∷ 32 ∷ []))) λ _. seq_more e λ v. calm (ret_ll (entry d v))

dashed_sub : {I I' : Lang Tree} → Sub I I' → Sub (Dashed I) (Dashed I')
dashed_sub e = seq_sub (sub_refl _) λ d. seq_sub (sub_refl _) λ _. seq_sub e λ v. sub_refl _

-- AN ARRAY at n, whose items have the content column n + 2
unfoldable pub array_r : ℕ → Reader Tree → Reader Tree
array_r n r = map_r block_array (lines_r (only 45) n (dashed_r r))

module _ (n : ℕ) {I : Lang Tree} {r : Reader Tree} (e : Exact 1 I (lines (suc (suc n))) r) where
  item_in : Exact 1 (Dashed I) (beyond n) (dashed_r r)
  item_in = weaken 1 (beyond n) (omega arith) (lines_beyond n) (dashed_exact e)

  pub array_exact : Exact 1 (Array n I) (lines n) (array_r n r)
  unfolding array_r
  array_exact = map_exact block_array (lines_exact (only 45) refl refl (dashed_opens I) (dashed_shuts r) n item_in)

pub array_opens : (n : ℕ) (I : Lang Tree) → Opens (only 45) (Array n I)
array_opens n I = seq_opens (seq_opens (dashed_opens I))

pub array_more : (n : ℕ) {r₀ r₁ r₂ : Reader Tree} → OneMore r₀ r₁ r₂ → OneMore (array_r n r₀) (array_r n r₁) (array_r n r₂)
unfolding array_r
array_more n e = seq_more (lines_more (only 45) n (dashed_more e)) λ es. calm (ret_ll (block_array es))

pub array_sub : (n : ℕ) {I I' : Lang Tree} → Sub I I' → Sub (Array n I) (Array n I')
array_sub n e = seq_sub (lines_sub n (dashed_sub e)) λ es. sub_refl _

-- A NESTED BULLET at c: "an array of that one element"
abbrev pub lone : Entry → Tree
lone i = block_array (i ∷ [])

abbrev pub Bullet : Lang Tree → Lang Tree
Bullet I = Map lone (Dashed I)

unfoldable pub bullet_r : Reader Tree → Reader Tree
bullet_r r = map_r lone (dashed_r r)

module _ (c : ℕ) {I : Lang Tree} {r : Reader Tree} (e : Exact 1 I (lines (suc (suc c))) r) where
  pub bullet_exact : Exact 1 (Bullet I) (lines c) (bullet_r r)
  unfolding bullet_r
  bullet_exact = map_exact lone (weaken 1 (lines c) (omega arith) (beyond_lines c) (weaken 1 (beyond c) (omega arith) (lines_beyond c) (dashed_exact e)))

pub bullet_more : {r₀ r₁ r₂ : Reader Tree} → OneMore r₀ r₁ r₂ → OneMore (bullet_r r₀) (bullet_r r₁) (bullet_r r₂)
unfolding bullet_r
bullet_more e = seq_more (dashed_more e) λ i. calm (ret_ll (lone i))

pub bullet_sub : {I I' : Lang Tree} → Sub I I' → Sub (Bullet I) (Bullet I')
bullet_sub e = seq_sub (dashed_sub e) λ i. sub_refl _
