-- THE STORED FORM OF TICKET 4, before there were parts: "old stored files read as before". Assumes nothing.
use Rattle.std.specs.Prelude.{List, [], ◌++◌, ℕ, ◌+◌, ◌<◌, length}
use Rattle.language.specs.Kind.{has_text, pick}
use Rattle.language.specs.Tree.{unescaped, Tree, leaf, node, Forest, none, more}
use Rattle.stored.specs.Form.{tagged, head, widest, tag}

-- "Content is the text for kinds 4 to 7 and 10, nothing for 1 to 3, the children's fields in order for 8 and 9"
unfoldable mutual
  pub content : Tree → List ℕ
  content (leaf k a e s) = pick (has_text k) s.bytes []
  content (node k a e c ts) = forms ts

  pub forms : Forest → List ℕ
  forms none = []
  forms (more t ts) = tagged (tag t) (content t) ++ forms ts

-- one field, and nothing behind it
abbrev pub form : Tree → List ℕ
form t = tagged (tag t) (content t)

-- "A content over 65,535 bytes": its own, or one below it
mutual
  pub data Wide : Tree → Type 0 where
    wide_here : {t : Tree} → widest < length (content t) → Wide t
    wide_below : {k a e c : ℕ} {ts : Forest} → Wides ts → Wide (node k a e c ts)

  pub data Wides : Forest → Type 0 where
    wide_first : {t : Tree} {ts : Forest} → Wide t → Wides (more t ts)
    wide_later : {t : Tree} {ts : Forest} → Wides ts → Wides (more t ts)

-- "each span running from a field's tag to the end of its content in the stored bytes"
unfoldable mutual
  pub placed : ℕ → Tree → Tree
  placed a (leaf k f e s) = leaf k a (a + length (form (leaf k f e s))) (unescaped s.bytes)
  placed a (node k f e c ts) = node k a (a + length (form (node k f e c ts))) c (placeds (a + head) ts)

  pub placeds : ℕ → Forest → Forest
  placeds a none = none
  placeds a (more t ts) = more (placed a t) (placeds (a + length (form t)) ts)
