-- THE JUDGEMENT OF A TEXT: by two runs of the reader and a look at the last characters it is given its tree, or stopped with the number and place of document 01.
use Rattle.std.specs.Prelude.{List, ℕ, suc}
use Rattle.language.specs.Tree.{Tree}
use Rattle.language.specs.Document.{Document}
use Rattle.language.specs.Answered.{deepest, CHAR, SYNTAX, DEEP, END, Stops, char, syntax, deep, end}
use Rattle.exact.specs.Decide.{settle, settled}
use Rattle.utf8.specs.Told.{Answer, Right, tell, given, refused_char, refused_syntax, refused_deep, refused_end, r_given, r_char, r_syntax, r_deep, r_end}
use Rattle.utf8.proofs.ToldLaws.{told}
use Rattle.blocks.specs.Document.{verdict}
use Rattle.blocks.proofs.DocumentLaws.{family}
use Rattle.blocks.specs.Clean.{document_allowed}
use Rattle.blocks.specs.Judged.{Judged, in_words, judge}

-- RIGHT FOR EVERY TEXT
pub judged : (s : List ℕ) → Judged s (judge s)
unfolding judge
judged s = in_words (told (document_allowed deepest) (settled family deepest s))
