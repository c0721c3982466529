-- JOINED STRINGS, two or more lines of one quoted string each, are read exactly before what is no further line.
use Rattle.std.proofs.Math.Path.{refl}
use Rattle.std.specs.Prelude.{List, [], ◌∷◌, false, ℕ}
use Rattle.std.proofs.Common.{arith}
use Rattle.notation.specs.Lang.{Plus, Indented, Map}
use Rattle.language.specs.Kind.{STRING}
use Rattle.language.specs.Tree.{Tree, leaf, unescaped}
use Rattle.language.specs.BlockText.{Part, part, part_text, part_end}
use Rattle.language.specs.Blocks.{JoinedLine, Joined}
use Rattle.exact.specs.Class.{Class, nothing}
use Rattle.exact.specs.Out.{Reader}
use Rattle.exact.specs.Lang.{None, Exact, within_bar, within_none, weaken}
use Rattle.exact.specs.Comb.{seq_r, map_r, map_exact}
use Rattle.exact.specs.Ll.{Shape, Ll, seq_ll, relax}
use Rattle.exact.specs.Block.{indented_r, indented_exact}
use Rattle.exact.specs.More.{Shuts, ll_shuts}
use Rattle.strings.specs.Quoted.{quoted_r, quoted_s}
use Rattle.strings.proofs.QuotedLaws.{quoted_ll}
use Rattle.blocktext.specs.Follow.{beyond, lines}
use Rattle.blocktext.specs.Opens.{Opens, ll_opens}
use Rattle.blocktext.specs.Led.{led_r, led_exact, led_opens, led_shuts}
use Rattle.blocktext.specs.LineEnd.{line_end_r, line_end_ll}
use Rattle.blocktext.specs.Plus.{plus_r, plus_exact}
use Rattle.blocktext.specs.Further.{further_r, further_exact}

-- ONE LINE, behind its spaces
abbrev pub quotes : Class
quotes = quoted_s.first

unfoldable pub joined_line_r : Reader Part
joined_line_r = seq_r quoted_r λ s. line_end_r (part s)

abbrev pub joined_line_s : Shape
joined_line_s = record { null = false; first = quotes; follow = [] }

pub joined_line_ll : Ll joined_line_s JoinedLine joined_line_r
unfolding joined_line_r
joined_line_ll = relax joined_line_s refl refl refl (seq_ll refl quoted_ll λ s. line_end_ll (part s))

joined_line_exact : Exact 1 JoinedLine None joined_line_r
joined_line_exact = weaken 1 None (omega arith) (within_bar _ None nothing) joined_line_ll.exact

-- THE FURTHER LINES on m spaces, at least one
abbrev pub joined_tree : ℕ → Part → List Part → Tree
joined_tree a p ps = leaf STRING a (part_end 0 ps) (part_text (p ∷ ps))

abbrev pub joined_more_r : ℕ → ℕ → Part → Reader Tree
joined_more_r m a p = map_r (joined_tree a p) (plus_r (indented_r m joined_line_r) (further_r quotes m joined_line_r))

unfoldable pub joined_r : ℕ → Reader Tree
joined_r m = led_r joined_line_r (joined_more_r m)

module _ (m : ℕ) where
  further : Exact 1 (Plus (Indented m JoinedLine)) (lines m) (plus_r (indented_r m joined_line_r) (further_r quotes m joined_line_r))
  further =
      plus_exact
      (indented_exact m joined_line_exact)
      (further_exact
      quotes
      refl
      refl
      (ll_opens refl joined_line_ll)
      (ll_shuts refl joined_line_ll)
      m
      (weaken 1 (beyond m) (omega arith) (within_none (beyond m)) joined_line_exact)
      (part (unescaped []) 0))

  pub joined_more_exact : (a : ℕ) (p : Part) → Exact 1 (Map (joined_tree a p) (Plus (Indented m JoinedLine))) (lines m) (joined_more_r m a p)
  joined_more_exact a p = map_exact (joined_tree a p) further

  pub joined_exact : Exact 1 (Joined m) (lines m) (joined_r m)
  unfolding joined_r
  joined_exact = led_exact refl refl joined_line_ll joined_more_exact

  pub joined_opens : Opens quotes (Joined m)
  joined_opens = led_opens refl refl joined_line_ll

  pub joined_shuts : Shuts quotes (joined_r m)
  unfolding joined_r
  joined_shuts = led_shuts refl refl joined_line_ll (joined_more_r m)
