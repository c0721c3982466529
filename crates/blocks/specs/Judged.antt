-- THE JUDGEMENT OF A TEXT: by two runs of the reader and a look at the last characters it is given its tree, or stopped with the number and place of document 01.
use Rattle.std.specs.Prelude.{List, ℕ, suc}
use Rattle.language.specs.Tree.{Tree}
use Rattle.language.specs.Document.{Document}
use Rattle.language.specs.Answered.{deepest, CHAR, SYNTAX, DEEP, END, Stops, char, syntax, deep, end}
use Rattle.exact.specs.Decide.{settle, settled}
use Rattle.utf8.specs.Told.{Answer, Right, tell, given, refused_char, refused_syntax, refused_deep, refused_end, r_given, r_char, r_syntax, r_deep, r_end}
use Rattle.utf8.proofs.ToldLaws.{told}
use Rattle.blocks.specs.Document.{verdict}
use Rattle.blocks.specs.Clean.{document_allowed}

unfoldable pub judge : List ℕ → Answer Tree
judge s = tell s (settle s (verdict deepest s) (verdict (suc deepest) s))

-- what a judgement says
abbrev pub Judged : List ℕ → Answer Tree → Type 0
Judged s (given t) = Document deepest s t
Judged s (refused_char p) = Stops s CHAR p
Judged s (refused_syntax p) = Stops s SYNTAX p
Judged s (refused_deep p) = Stops s DEEP p
Judged s (refused_end p) = Stops s END p

pub in_words : {s : List ℕ} {a : Answer Tree} → Right Document deepest s a → Judged s a
in_words (r_given t x u) = x
in_words (r_char p l b d) = char p l b d
in_words (r_syntax p l b d a) = syntax p l b d a
in_words (r_deep p l b d j x) = deep p j l b d x
in_words (r_end b z) = end b z
