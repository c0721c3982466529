-- THE LINES that an item, the root and nested content may begin with, block strings and block bytes among them: exact, and beside arrays and objects.
use Rattle.std.specs.Prelude.{◌≡◌, List, ◌∷◌, ◌++◌, Bool, true, false, ℕ, suc, ◌<◌}
use Rattle.std.proofs.Math.Path.{refl, ap, subst}
use Rattle.std.proofs.Common.{sym, arith}
use Rattle.language.specs.Tree.{Tree, Decoded}
use Rattle.language.specs.Strings.{keybyte}
use Rattle.language.specs.Inline.{LineValue}
use Rattle.language.specs.BlockText.{OpenString, part}
use Rattle.language.specs.Blocks.{Open, Joined}
use Rattle.exact.specs.Class.{pick, is, only, is_right, apart_no}
use Rattle.exact.specs.Out.{Out, Reader, bind, Firm, reach_from, f_ok, f_bad}
use Rattle.exact.specs.Lang.{Lang, within_none, Exact, weaken}
use Rattle.exact.specs.Comb.{Seq, seq_tame, Alt, alt_r}
use Rattle.exact.specs.More.{OneMore, tame_any, steady, alt_more}
use Rattle.strings.proofs.QuotedLaws.{quoted_ll}
use Rattle.strings.proofs.KeysLaws.{key_ll}
use Rattle.inline.specs.Lists.{value_first}
use Rattle.blocktext.specs.Follow.{lines, beyond_lines}
use Rattle.blocktext.specs.LineEnd.{line_end_r, line_end_ll}
use Rattle.blocktext.specs.BlockStrings.{open_string_r, open_string_exact, open_string_opens}
use Rattle.blocktext.specs.BlockBytes.{open_bytes_r, open_bytes_exact, open_bytes_opens}
use Rattle.blocktext.specs.Joined.{quotes, joined_line_r, joined_more_r, joined_more_exact, joined_r, joined_exact, joined_opens, joined_shuts}
use Rattle.blocks.specs.First.{Opens, alt_opens, first_exact, alt_swap, alt_group}
use Rattle.blocks.specs.Look.{Stands, refused, Beside}
use Rattle.blocks.specs.KeyLook.{key_first, key_stop, block_look}
use Rattle.blocks.specs.LineLook.{quoted_stands, beside}
use Rattle.blocks.specs.ValueLine.{Ending, line_r, line_opens, line_more, line_alike}
use Rattle.blocks.proofs.ValueLineLaws.{line_exact, line_stands}
use Rattle.blocks.specs.Openers.{joined_split, nested_line_exact, nested_line_r, opener_r}

module _ {B : Tree → Lang Tree} {q : Tree → Reader Tree} (e : Ending B q) where
  pub opener_exact : (k c : ℕ) → Exact 1 (Alt (Seq (LineValue k) B) (Open c)) (lines c) (opener_r q k c)
  unfolding opener_r
  opener_exact k c =
      alt_swap
      (alt_group
      (first_exact
      refl
      (open_string_opens c)
      (alt_opens (open_bytes_opens c) (line_opens e k))
      (weaken 1 (lines c) (omega arith) (beyond_lines c) (open_string_exact c))
      (first_exact
      refl
      (open_bytes_opens c)
      (line_opens e k)
      (weaken 1 (lines c) (omega arith) (beyond_lines c) (open_bytes_exact c))
      (weaken 1 (lines c) (omega arith) (within_none (lines c)) (line_exact e k)))))

  pub opener_more : (k j c : ℕ) → k < j → OneMore (opener_r q k c) (opener_r q (suc k) c) (opener_r q j c)
  unfolding opener_r
  opener_more k j c l =
      alt_more (is (only 96)) (steady (open_string_exact c).moves) (alt_more (is (only 62)) (steady (open_bytes_exact c).moves) (line_more e k j l))

  pub opener_beside : (k c : ℕ) → Beside block_look key_stop (opener_r q 0 c) (opener_r q k c)
  unfolding opener_r
  opener_beside k c =
      beside
      (tame_any (opener_exact 0 c).moves)
      (tame_any (opener_exact k c).moves)
      (λ at b s h. ap (λ o. pick (is (only 96) b) (open_string_r c at (b ∷ s)) (pick (is (only 62) b) (open_bytes_r c at (b ∷ s)) o)) (line_alike e k at b s h))
      (λ at b s h. rw (apart_no key_first (only 96) b refl h, apart_no key_first (only 62) b refl h) (line_stands e at b s h))

module _ (m : ℕ) where
  joined_quoted : (at b : ℕ) (s : List ℕ) → is quotes b ≡ true → Stands (block_look at (b ∷ s)) (key_stop at (b ∷ s)) (joined_r m at (b ∷ s))
  unfolding joined_r joined_line_r
  joined_quoted at b s h =
      subst
      (λ (o : Out Tree). Stands (block_look at (b ∷ s)) (key_stop at (b ∷ s)) o)
      (sym ((joined_split m) at (quoted_ll.firm at (b ∷ s))))
      (quoted_stands
      (λ v a t. bind (line_end_r (part v) a t) (joined_more_r m at))
      (λ v. seq_tame (line_end_ll (part v)).exact.moves (λ p. (joined_more_exact m at p).moves))
      (λ v a t. refl)
      at
      b
      s
      h)

  joined_stands : (at b : ℕ) (s : List ℕ) → is key_first b ≡ true → Stands (block_look at (b ∷ s)) (key_stop at (b ∷ s)) (joined_r m at (b ∷ s))
  joined_stands at b s h = by (is keybyte b) refl
    where
      by : (x : Bool) → is keybyte b ≡ x → Stands (block_look at (b ∷ s)) (key_stop at (b ∷ s)) (joined_r m at (b ∷ s))
      by true x =
          refused at ((joined_shuts m).not at b s (apart_no keybyte quotes b refl x)) (reach_from (key_ll.exact.moves.tame at (b ∷ s)))
      by false x = joined_quoted at b s (is_right keybyte quotes b x h)

  pub nested_line_beside : Beside block_look key_stop (nested_line_r m) (nested_line_r m)
  unfolding nested_line_r
  nested_line_beside =
      beside
      (tame_any (nested_line_exact m).moves)
      (tame_any (nested_line_exact m).moves)
      (λ at b s h. refl)
      (λ at b s h. rw (apart_no key_first (only 96) b refl h) (joined_stands at b s h))
