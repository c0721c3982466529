-- THE STORED FORM of a tree, and the tree with the spans that it has there (02, Ticket 4, mended by Ticket 11). Assumes nothing.
use Rattle.std.specs.Prelude.{List, [], ◌∷◌, ◌++◌, ℕ, zero, suc, ◌+◌, ◌-◌, ◌*◌, ◌/◌, ◌%◌, leb, length, take, drop}
use Rattle.language.specs.Kind.{has_text, pick}
use Rattle.language.specs.Tree.{unescaped, Tree, leaf, node, Forest, none, more}

-- "tagged fields: one byte tag, the row's kind; two bytes length, high byte first; then content"
abbrev pub tagged : ℕ → List ℕ → List ℕ
tagged kind content = kind ∷ length content / 256 ∷ length content % 256 ∷ content

-- the bytes before a content
abbrev pub head : ℕ
head = 3

-- the bytes that one field holds: "with at most 65,535 bytes"
unfoldable pub widest : ℕ
widest = 65535

-- "Tag 11 .. carries the next part of a content"
abbrev pub PART : ℕ
PART = 11

-- "Tag 11, with length exactly 65,535, carries the next part of a content, and the field after it goes on until one with the true tag ends it with at most 65,535 bytes"; such parts are "used only
-- while more than 65,535 bytes remain". The first number is how many there may be: a content has no more of them than bytes, so that its length is enough
unfoldable pub parted : ℕ → ℕ → List ℕ → List ℕ
parted zero kind content = tagged kind content
parted (suc n) kind content = pick (leb (length content) widest) (tagged kind content) (tagged PART (take widest content) ++ parted n kind (drop widest content))

-- A CONTENT IN ITS PARTS, under its true tag
unfoldable pub cut : ℕ → List ℕ → List ℕ
cut kind content = parted (length content) kind content

-- "tag, the row's kind"
abbrev pub tag : Tree → ℕ
tag (leaf k a e s) = k
tag (node k a e c ts) = k

-- "Content is the text for kinds 4 to 7 and 10, nothing for 1 to 3, the children's fields in order for 8 and 9": the whole fields of the children, in their own parts (readings of Ticket 11)
unfoldable mutual
  pub content : Tree → List ℕ
  content (leaf k a e s) = pick (has_text k) s.bytes []
  content (node k a e c ts) = forms ts

  pub forms : Forest → List ℕ
  forms none = []
  forms (more t ts) = cut (tag t) (content t) ++ forms ts

-- THE STORED FORM: the root's content in its parts, and nothing behind it (readings of Ticket 4)
abbrev pub form : Tree → List ℕ
form t = cut (tag t) (content t)

-- where byte i of a content stands among its parts: behind a head, and a further one for each 65,535 bytes before it. "Parts are cut wherever they fall among the fields inside"
abbrev pub inside : ℕ → ℕ
inside i = i + head * (i / widest + 1)

-- THE TREE THAT STORED BYTES HOLD: "the same kinds, texts and nesting"; "a span runs from a field's first tag to the end of its last byte". `at` says where byte i of a field, or of fields one behind
-- another, stands in the stored bytes: so cuts of a container around a field count in its span where they fall inside, and not just before or behind it (readings of Ticket 11).
-- How its texts were escaped is not kept, since no row tells it
unfoldable mutual
  pub placed : (ℕ → ℕ) → Tree → Tree
  placed at (leaf k f e s) = leaf k (at 0) (at (length (form (leaf k f e s)) - 1) + 1) (unescaped s.bytes)
  placed at (node k f e c ts) = node k (at 0) (at (length (form (node k f e c ts)) - 1) + 1) c (placeds (λ i. at (inside i)) ts)

  pub placeds : (ℕ → ℕ) → Forest → Forest
  placeds at none = none
  placeds at (more t ts) = more (placed at t) (placeds (λ i. at (length (form t) + i)) ts)

-- the root's field is the stored bytes
abbrev pub loaded : Tree → Tree
loaded t = placed (λ i. i) t
