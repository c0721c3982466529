-- The reader of one keyword, with its span: what the reader of keywords and numbers comes to, where the first bytes say which. Assumes nothing.
use Rattle.std.specs.Prelude.{List, ℕ}
use Rattle.exact.specs.Out.{Reader}
use Rattle.exact.specs.Lang.{ret_r}
use Rattle.exact.specs.Comb.{seq_r}
use Rattle.exact.specs.Ll.{here_r, word_r}
use Rattle.language.specs.Tree.{unescaped, Tree, leaf}

unfoldable pub keyword_r : ℕ → List ℕ → List ℕ → Reader Tree
keyword_r kind word text = seq_r here_r λ a. seq_r (word_r word) λ _. seq_r here_r λ e. ret_r (leaf kind a e (unescaped text))
