-- ON WHAT `read` FILLED: on the table of an accepted document `find` answers the value of the key in that object, exactly if the object has the key
use Rattle.std.specs.Prelude.{◌≡◌, refl, List, ◌++◌, Bool, true, false, ◌↔◌, ℕ, ◌*◌, ◌≤◌, ◌<◌, length, get_or, drop}
use Rattle.std.proofs.Common.{sym, subst, ◌∙◌, arith, length-append}
use Rattle.language.specs.Tree.{Positions, Tree, width, size, text_of, rows_of}
use Rattle.language.specs.Document.{Document}
use Rattle.language.specs.Lines.{lines_of}
use Rattle.language.specs.Answered.{deepest, Stops, char, syntax, deep, end, Reads, Answered, accepted, stopped}
use Rattle.language.specs.Lent.{words_in, bytes_in}
use Rattle.questions.specs.Walk.{found_reply, object, Finds, refused}
use Rattle.questions.specs.Unique.{one_found}
use Rattle.spans.proofs.DocumentLaws.{placed, document_formed, in_document, few_rows, few_text}
use Rattle.rooms.specs.Forest.{length_rows}
use Rattle.spans.specs.Placed.{itself}
use Rattle.spans.specs.Rising.{firsts, firsts_within}
use Rattle.spans.proofs.RisingLaws.{document_rises}
use Rattle.spans.proofs.BeginsLaws.{begins_ascii}
use Rattle.lined.specs.Back.{lines_back}
use Rattle.found.specs.Objects.{RowOf, Pair, Holds, ObjectAt}
use Rattle.found.specs.Stands.{stands_first}
use Rattle.found.proofs.RootedLaws.{value_row, one_object}
use Rattle.found.specs.Once.{Once, once}
use Rattle.found.specs.Find.{Filled, Answers, answers}
use Rattle.found.proofs.FindLaws.{find_value}
use Rattle.found.specs.Kinds.{Object}
use Rattle.found.proofs.KindsLaws.{objects}
use Rattle.found.specs.Spans.{RowSpans, row_spans}
use Rattle.lined.specs.Lined.{first_byte}
use Rattle.found.specs.Firsts.{row_line, row_column, From, row_from, rows_rise}
use Rattle.found.specs.Read.{Finding, FindsExactly, filling, no_object}

finds_exactly : {doc : List ℕ} {n : ℕ} {table room : List ℕ} {t : Tree} → Reads doc t → Filled t n table room → FindsExactly t n table room
finds_exactly {doc} {n} {table} {t = t} d h =
    let o = objects h (document_formed deepest doc t d.word) in
    record {
      objects_are = o;
      one_list = λ y w. one_object y w;
      keys_once = λ y. once d.once y;
      values_are = λ y w. value_row y w;
      finding = λ y s f g. answers f g (find_value h d.once y s);
      others = λ {r} m s f g. no_object f (object table n r) refl (λ e. m ((o r).0 e)) g;
    }

pub find_exactly : {doc table text table' text' : List ℕ} {n m : ℕ} → Answered doc table text 0 n m table' text' → Finding doc n table' text'
find_exactly x = let z = filling x in record { tree = z.tree; reads = z.reads; exactly = finds_exactly z.reads z.filled }

-- .. and in any tree of it, where a document has one tree
pub find_in_tree : {doc table text table' text' : List ℕ} {n m : ℕ} {t : Tree} → ((u v : Tree) → Document deepest doc u → Document deepest doc v → u ≡ v)
    → Answered doc table text 0 n m table' text' → Document deepest doc t → FindsExactly t n table' text'
find_in_tree {table' = table'} {text' = text'} {n = n} {t = t} one x d =
    let z = find_exactly x in
    subst (λ (u : Tree). FindsExactly u n table' text') (one z.tree t z.reads.word d) z.exactly
