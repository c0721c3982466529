-- THE LINES that an item, the root and nested content may begin with, block strings and block bytes among them: exact, and beside arrays and objects.
use Rattle.std.specs.Prelude.{◌≡◌, List, ◌∷◌, ◌++◌, Bool, true, false, ℕ, suc, ◌<◌}
use Rattle.std.proofs.Math.Path.{refl, ap, subst}
use Rattle.std.proofs.Common.{sym, arith}
use Rattle.language.specs.Tree.{Tree, Decoded}
use Rattle.language.specs.Strings.{keybyte}
use Rattle.language.specs.Inline.{LineValue}
use Rattle.language.specs.BlockText.{OpenString, part}
use Rattle.language.specs.Blocks.{Open, Joined}
use Rattle.exact.specs.Class.{pick, is, only, is_right, apart_no}
use Rattle.exact.specs.Out.{Out, Reader, bind, Firm, reach_from, f_ok, f_bad}
use Rattle.exact.specs.Lang.{Lang, within_none, Exact, weaken}
use Rattle.exact.specs.Comb.{Seq, seq_tame, Alt, alt_r}
use Rattle.exact.specs.More.{OneMore, tame_any, steady, alt_more}
use Rattle.strings.proofs.QuotedLaws.{quoted_ll}
use Rattle.strings.proofs.KeysLaws.{key_ll}
use Rattle.inline.specs.Lists.{value_first}
use Rattle.blocktext.specs.Follow.{lines, beyond_lines}
use Rattle.blocktext.specs.LineEnd.{line_end_r, line_end_ll}
use Rattle.blocktext.specs.BlockStrings.{open_string_r, open_string_exact, open_string_opens}
use Rattle.blocktext.specs.BlockBytes.{open_bytes_r, open_bytes_exact, open_bytes_opens}
use Rattle.blocktext.specs.Joined.{quotes, joined_line_r, joined_more_r, joined_more_exact, joined_r, joined_exact, joined_opens, joined_shuts}
use Rattle.blocks.specs.First.{Opens, alt_opens, first_exact, alt_swap, alt_group}
use Rattle.blocks.specs.Look.{Stands, refused, Beside}
use Rattle.blocks.specs.KeyLook.{key_first, key_stop, block_look}
use Rattle.blocks.specs.LineLook.{quoted_stands, beside}
use Rattle.blocks.specs.ValueLine.{Ending, line_r, line_opens, line_more, line_alike}

-- AN OPEN BLOCK STRING OR BLOCK BYTES at c by their first byte, else a line of one value
unfoldable pub opener_r : (Tree → Reader Tree) → ℕ → ℕ → Reader Tree
opener_r q k c = alt_r (is (only 96)) (open_string_r c) (alt_r (is (only 62)) (open_bytes_r c) (line_r q k))

module _ {B : Tree → Lang Tree} {q : Tree → Reader Tree} (e : Ending B q) where
  pub opener_opens : (k c : ℕ) → Opens (value_first ++ (only 96 ++ only 62)) (Alt (Seq (LineValue k) B) (Open c))
  opener_opens k c = alt_opens (line_opens e k) (alt_opens (open_string_opens c) (open_bytes_opens c))

-- NESTED CONTENT'S LINE: an open block string by its first byte, else joined strings
unfoldable pub nested_line_r : ℕ → Reader Tree
nested_line_r m = alt_r (is (only 96)) (open_string_r m) (joined_r m)

module _ (m : ℕ) where
  pub nested_line_exact : Exact 1 (Alt (OpenString m) (Joined m)) (lines m) (nested_line_r m)
  unfolding nested_line_r
  nested_line_exact =
      first_exact refl (open_string_opens m) (joined_opens m) (weaken 1 (lines m) (omega arith) (beyond_lines m) (open_string_exact m)) (joined_exact m)

  pub joined_split : (at : ℕ) {o : Out Decoded} → Firm o
      → bind (bind o (λ v. line_end_r (part v))) (joined_more_r m at) ≡ bind o (λ v a t. bind (line_end_r (part v) a t) (joined_more_r m at))
  joined_split at f_ok = refl
  joined_split at f_bad = refl
