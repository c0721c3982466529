-- ROWS STAND IN THE ORDER OF THEIR FIRST BYTES: each row of a document begins where the row before it does or later, and before the document's end (01, What the reader
use Rattle.std.specs.Prelude.{◌≡◌, refl, List, [], ◌∷◌, ◌++◌, ℕ, zero, suc, ◌+◌, ◌-◌, ◌≤◌, ◌<◌, length, get_or}
use Rattle.std.proofs.Common.{sym, ap, subst, ◌∙◌, arith, length-append, get_or-append-add}
use Rattle.std.proofs.Math.Decide.{dec_le}
use Rattle.std.proofs.Math.ListN.{get_or-append}
use Rattle.language.specs.Tree.{Tree, leaf, node, Forest, none, more, first, after, size, sizes}
use Rattle.language.specs.Document.{Document}
use Rattle.spans.specs.Placed.{Placed, Along, placed_leaf, placed_node, along_none, along_more, along_le, span_some, Among, among_first, among_later, child, Within, itself, below}
use Rattle.spans.proofs.DocumentLaws.{placed, in_document}
use Rattle.spans.specs.Rising.{Rising, firsts, placed_rises, rising_from, rising_to}

pub document_rises : (k : ℕ) (doc : List ℕ) (t : Tree) → Document k doc t → Rising 0 (firsts t) (length doc)
document_rises k doc t d = rising_from {b = first t} (omega arith) (rising_to (in_document k doc t d itself) (placed_rises (placed k doc t d)))
