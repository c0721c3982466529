-- EVERY DOCUMENT'S TREE: its rows, and its text with its escapes, are fewer than the document's bytes, its keys a fourth of them at most, its spans and its kinds are in their place. Assumes nothing.
use Rattle.std.specs.Prelude.{◌≡◌, true, ℕ, zero, suc, ◌+◌, ◌*◌, ◌≤◌, ◌<◌}
use mathlib.Core.List.{List}
use Rattle.std.proofs.Common.{inl, arith}
use Rattle.std.proofs.Math.ListN.{length}
use Rattle.notation.specs.Lang.{◌>>◌, Star, End, end}
use Rattle.language.specs.Tree.{Decoded, Tree, leaf, node, Forest, first, after, size, text_of, escapes_of}
use Rattle.language.specs.Characters.{Feed, Comment}
use Rattle.language.specs.Document.{RootLine, Root, Whole, Document}
use Rattle.spans.specs.Onward.{onward_length}
use Rattle.spans.specs.Every.{Every, ret_every, byte_every, byte_then, bind_every, alt_every}
use Rattle.spans.specs.Placed.{Placed, Child, Siblings, Within, Inside, span_some, child_inside, siblings_ordered, within_placed, within_inside}
use Rattle.spans.specs.Formed.{Formed, LeafKeys, formed_leaf_keys}
use Rattle.spans.specs.Keys.{keys_in}
use Rattle.spans.specs.Kinds.{Contains, Tells, within_either, either_contains, either_tells}
use Rattle.spans.specs.Lies.{LiesIn}
use Rattle.spans.specs.Texts.{Goes, star_goes, comment_goes}
use Rattle.spans.specs.Blocks.{OnLines, Roomy}

pub comments_go : (at : ℕ) → Every (Star (Comment >> Feed)) at (Goes at)
comments_go at = star_goes (λ a. bind_every (comment_goes a) (λ c m h. byte_every (λ b. omega arith))) at
