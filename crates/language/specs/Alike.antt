-- EQUAL BUT FOR SPANS (02, Ticket 1): "the same kinds, texts and nesting; only spans may differ". Assumes nothing.
use Rattle.std.specs.Prelude.{◌≡◌}
use Rattle.language.specs.Tree.{unescaped, Tree, leaf, node, Forest, none, more}

-- a tree whose spans are all 0; how its texts were escaped is not kept either, since no row tells it
unfoldable mutual
  pub unspan : Tree → Tree
  unspan (leaf k a e s) = leaf k 0 0 (unescaped s.bytes)
  unspan (node k a e c ts) = node k 0 0 c (unspans ts)

  pub unspans : Forest → Forest
  unspans none = none
  unspans (more t ts) = more (unspan t) (unspans ts)

-- two trees with the same kinds, texts, counts and nesting
abbrev pub Alike : Tree → Tree → Type 0
Alike t u = unspan t ≡ unspan u
