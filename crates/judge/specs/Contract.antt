-- What the readers of blocks promise in code, besides the contract of every reader: of a look, of the next line, of a member, and of a whole document. Assumes nothing.
use Rattle.std.specs.Prelude.{◌≡◌, List, [], ◌∷◌, Bool, true, false, ℕ, ◌+◌, ◌≤◌, ◌<◌, max, length, drop}
use Rattle.std.proofs.lemmas.List.Edits.{sets}
use Rattle.language.specs.Tree.{unlined, Tree, forest, end_of, size, sizes, text_of, rows_of, escapes_of}
use Rattle.language.specs.Answered.{limit}
use Rattle.exact.specs.Class.{is, only}
use Rattle.exact.specs.Verdict.{acc, stop}
use Rattle.exact.specs.Out.{Out, Reader, bad}
use Rattle.exact.specs.Lang.{byte_r}
use Rattle.exact.specs.Comb.{seq_r}
use Rattle.exact.specs.Place.{peek, run_end}
use Rattle.exact.specs.Block.{ind, lead}
use Rattle.exact.specs.Lines.{reached}
use Rattle.rooms.specs.Told.{spot, tally}
use Rattle.rooms.specs.declared.Cursor.{Cursor}
use Rattle.rooms.specs.Contract.{Ans}
use Rattle.std.specs.declared.result.Result.TheVariants.{Err, Ok}
use Rattle.rooms.specs.Contract.{Block}
use Rattle.rooms.specs.Contract.{ample, onward}
use Rattle.characters.specs.Comments.{comment_r, optional_comment_r}
use Rattle.strings.specs.Keys.{key_r}
use Rattle.notes.specs.Flat.{flat}
use Rattle.notes.specs.Notes.{Kept}
use Rattle.inline.specs.Written.{Written}
use Rattle.blocks.specs.KeyLook.{keyed, key_stop, dashed}
use Rattle.blocks.specs.Document.{verdict}
use Rattle.blocks.specs.ValueLine.{feed_end_r, comment_end_r}
use Rattle.judge.specs.declared.Start.{Start}
use Rattle.judge.specs.declared.Start.TheVariants.{Dash, Key, Line}
use Rattle.judge.specs.Members.{Member, firsts, begin, children}

-- ASKED of a cursor where a member of a block begins: the block's own row came before, so its row may be one ahead of its place
pub record Stands (doc : List ℕ) (c : Cursor) : Type 0 where
  pub small : length doc ≤ limit
  pub inside : c.at ≤ length doc
  pub few_rows : c.row ≤ c.at + 1
  pub few_text : spot c.text ≤ c.at
  pub few_escapes : tally c.text ≤ c.at

-- THE END OF A LINE: LF at the root, elsewhere an optional line comment and LF
unfoldable pub feed_r : Reader ℕ
feed_r = byte_r (is (only 10))

unfoldable pub ends_r : Bool → Reader ℕ
ends_r true = feed_r
ends_r false = seq_r optional_comment_r λ _. feed_r

abbrev pub end_r : Bool → Tree → Reader Tree
end_r true = feed_end_r
end_r false = comment_end_r

-- BEHIND A COLON at c: a space and no second one, taken; or not
pub data Gap (doc : List ℕ) (c : Cursor) : Ans → Type 0 where
  one_space : 32 ≡ peek doc c.at → (peek doc (c.at + 1) ≡ 32 → ⊥) → Gap doc c (Ok (onward c 1))
  no_space : (p : ℕ) → (peek doc c.at ≡ 32 → ⊥) → Gap doc c (Err p)
  two_spaces : (p : ℕ) → 32 ≡ peek doc c.at → 32 ≡ peek doc (c.at + 1) → Gap doc c (Err p)

-- A LOOK says how a block begins: with a dash and a space, with a key and a colon, or with neither, and then where the key ends
pub record Neither (at : ℕ) (s : List ℕ) (p : ℕ) : Type 0 where
  pub no_dash : dashed s ≡ false
  pub no_key : keyed (key_r at s) ≡ false
  pub stops : p ≡ key_stop at s

unfoldable pub Looked : List ℕ → ℕ → Start → Type 0
Looked doc at Dash = dashed (drop at doc) ≡ true
Looked doc at Key = keyed (key_r at (drop at doc)) ≡ true
Looked doc at (Line p) = Neither at (drop at doc) p

-- a refusal is no earlier than p
unfoldable pub later : Block → ℕ → Block
later (Ok (n, far, e)) p = Ok (n, far, e)
later (Err q) p = Err (max q p)

-- the numbers of a block's row fit
pub record Enclosed (c : Cursor) (e count next : ℕ) : Type 0 where
  pub first_fits : c.at < ample
  pub after_fits : e < ample
  pub count_fits : count < ample
  pub row_fits : c.row < ample
  pub next_fits : next < ample

-- THE NEXT LINE of a block at n, which begins at `at`: a further member begins at a, or none does, and the line begins one up to p
pub record Again (o : Bool) (doc : List ℕ) (at n a : ℕ) : Type 0 where
  pub begins : ind (is (firsts o)) n (drop at doc) ≡ true
  pub there : a ≡ at + n
  pub full : lead n (drop at doc) ≡ n

pub record Ended (o : Bool) (doc : List ℕ) (at n p : ℕ) : Type 0 where
  pub none : ind (is (firsts o)) n (drop at doc) ≡ false
  pub upto : p ≡ at + lead n (drop at doc)
  pub inside : p ≤ length doc

unfoldable pub Follows : Bool → List ℕ → Cursor → ℕ → Ans → Type 0
Follows o doc c n (Ok d) = Again o doc c.at n d.at × (d ≡ record { at = d.at; row = c.row; text = c.text })
Follows o doc c n (Err p) = Ended o doc c.at n p

-- A MEMBER at c: its trees are written with one parent, it ends at e, and n stands behind its lines
pub record Read (o : Bool) (doc : List ℕ) (c : Cursor) (parent : ℕ) (out : Out (Member o)) (n : Cursor) (far e : ℕ) (R R' T T' : List ℕ) : Type 0 where
  pub member : Member o
  pub is : out ≡ reached far member n.at (drop n.at doc)
  pub begins : begin o member ≡ c.at
  pub ends : end_of 0 (children o (member ∷ [])) ≡ e
  pub inner : e ≤ n.at
  pub spare : c.at + sizes (forest (children o (member ∷ []))) < n.at
  pub written : Written doc c n parent (children o (member ∷ [])) R R' T T'

unfoldable pub Members : (o : Bool) → List ℕ → Cursor → ℕ → Out (Member o) → Block → List ℕ → List ℕ → List ℕ → List ℕ → Type 0
Members o doc c parent out (Ok (n, far, e)) R R' T T' = Read o doc c parent out n far e R R' T T'
Members o doc c parent out (Err p) R R' T T' = out ≡ bad p

-- COMMENTS before the root, each with its LF
unfoldable pub comment_line_r : Reader ℕ
comment_line_r = seq_r comment_r λ _. byte_r (is (only 10))

-- WHAT FOLLOWS the root that ends at n: blank lines and the document's end, or the place where it goes on otherwise
unfoldable pub Finished : List ℕ → Cursor → ℕ → Ans → Type 0
Finished doc n far (Ok m) = (m ≡ n) × (length doc ≤ run_end (only 10) doc n.at)
Finished doc n far (Err p) = (p ≡ max far (run_end (only 10) doc n.at)) × (run_end (only 10) doc n.at < length doc)

-- A WHOLE DOCUMENT read with an allowance of k: its tree and counts, or how far it begins one
pub record Known (k : ℕ) (doc : List ℕ) (n : Cursor) : Type 0 where
  pub tree : Tree
  pub is : verdict k doc ≡ acc tree
  pub row : n.row ≡ size tree
  pub text : spot n.text ≡ length (text_of tree)
  pub escapes : tally n.text ≡ escapes_of tree

unfoldable pub Checked : ℕ → List ℕ → Ans → Type 0
Checked k doc (Ok n) = Known k doc n
Checked k doc (Err p) = verdict k doc ≡ stop p

-- .. and what it has written
pub record Filled (k : ℕ) (doc rows rows' text text' : List ℕ) : Type 0 where
  pub filled : (t : Tree) → verdict k doc ≡ acc t → (rows' ≡ sets rows 0 (rows_of unlined 0 0 0 t)) × (text' ≡ sets text 0 (text_of t))

-- .. and the keys that it has noted
pub record Logged (k : ℕ) (doc S S' : List ℕ) : Type 0 where
  pub logged : (t : Tree) → verdict k doc ≡ acc t → Kept doc 0 (flat 0 0 t) (length doc) S S'
