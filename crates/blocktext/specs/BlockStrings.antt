-- BLOCK STRINGS, open at a column and of a property, are read exactly before what is no deeper; the blank lines behind them are theirs.
use Rattle.std.specs.Prelude.{◌≡◌, List, [], ◌∷◌, ◌++◌, true, ℕ}
use Rattle.std.proofs.Math.Path.{refl}
use Rattle.std.proofs.Common.{arith}
use Rattle.notation.specs.Lang.{Lang, ◌>>=◌, ◌>>◌, Star, Plus, Ret, Here, Map, cat}
use Rattle.language.specs.Kind.{STRING}
use Rattle.language.specs.Tree.{unescaped, Tree, leaf}
use Rattle.language.specs.Characters.{Space, Feed, Piece, Option}
use Rattle.language.specs.BlockText.{Line, blank, body_text, body_end, BodyLine, OpenString, PropertyString}
use Rattle.exact.specs.Class.{is, only, starts_none}
use Rattle.exact.specs.Out.{Reader}
use Rattle.exact.specs.Lang.{Exact, within_same, weaken, byte_r}
use Rattle.exact.specs.Comb.{seq_r, map_r, seq_exact, many_r, option_r}
use Rattle.exact.specs.Ll.{Shape, Ll, ret_ll, seq_ll, star_ll, relax, byte₁}
use Rattle.exact.specs.More.{Goes, Shuts, byte_goes}
use Rattle.characters.specs.Comments.{piece_r, piece_s, piece_ll, option_ll}
use Rattle.blocktext.specs.Follow.{beyond}
use Rattle.blocktext.specs.Opens.{Opens}
use Rattle.blocktext.specs.Led.{led_r, led_exact, led_opens, led_shuts, led_goes}
use Rattle.blocktext.specs.Plus.{plus_r}
use Rattle.blocktext.specs.Body.{text_blank, end_blank}
use Rattle.blocktext.specs.TextLines.{body_r, text_body_exact}

-- an LF and the body below it, of which a tree is made with the LF's place
abbrev pub below_r : (ℕ → List Line → Tree) → ℕ → Reader Tree
below_r tree c = led_r (byte_r (is (only 10))) λ e _. map_r (tree e) (body_r c)

below_exact : (tree : ℕ → List Line → Tree) → ((e : ℕ) (ls : List Line) → tree e (ls ++ blank ∷ []) ≡ tree e ls) → (c : ℕ)
    → Exact 1 (do e ← Here; Feed; Map (tree e) (Star (BodyLine c))) (beyond c) (below_r tree c)
below_exact tree trims c = led_exact refl refl (byte₁ 10) λ e _. text_body_exact c (tree e) (trims e)

-- THE LEADER'S TEXT, if there is one
abbrev pub LeaderText : Lang (List ℕ)
LeaderText = Option (do Space; ps ← Plus Piece; Ret (cat ps))

unfoldable pub leader_text_r : Reader (List ℕ)
leader_text_r = option_r (only 32) (seq_r (byte_r (is (only 32))) λ _. map_r cat (plus_r piece_r (many_r (is piece_s.first) piece_r)))

abbrev pub leader_text_s : Shape
leader_text_s = record { null = true; first = only 32; follow = piece_s.first }

pub leader_text_ll : Ll leader_text_s LeaderText leader_text_r
unfolding leader_text_r
leader_text_ll =
    relax
    leader_text_s
    refl
    refl
    refl
    (option_ll
    refl
    (seq_ll refl (byte₁ 32) λ _. seq_ll refl (seq_ll refl piece_ll λ v. seq_ll refl (star_ll refl refl piece_ll) λ vs. ret_ll (v ∷ vs)) λ ps. ret_ll (cat ps)))

-- OPEN AT A COLUMN
abbrev pub open_string_tree : ℕ → List ℕ → ℕ → List Line → Tree
open_string_tree a t e ls = leaf STRING a (body_end e ls) (unescaped (t ++ 10 ∷ body_text ls))

abbrev pub open_string_rest_r : ℕ → ℕ → Reader Tree
open_string_rest_r c a = seq_r leader_text_r λ t. below_r (open_string_tree a t) c

unfoldable pub open_string_r : ℕ → Reader Tree
open_string_r c = led_r (byte_r (is (only 96))) λ a _. open_string_rest_r c a

open_trims : (a : ℕ) (t : List ℕ) (e : ℕ) (ls : List Line) → open_string_tree a t e (ls ++ blank ∷ []) ≡ open_string_tree a t e ls
open_trims a t e ls = rw (end_blank, text_blank)

module _ (c : ℕ) where
  open_string_rest_exact : (a : ℕ) → Exact 1 (do t ← LeaderText; e ← Here; Feed; Map (open_string_tree a t e) (Star (BodyLine c))) (beyond c) (open_string_rest_r c a)
  open_string_rest_exact a =
      weaken
      1
      (beyond c)
      (omega arith)
      (within_same (beyond c))
      (seq_exact
      leader_text_ll.exact
      (λ t. below_exact (open_string_tree a t) (open_trims a t) c)
      (λ x at s y at' t b g z. starts_none (only 10) piece_s.first s refl ((led_opens refl refl (byte₁ 10)).opens at s y at' t b) z))

  pub open_string_exact : Exact 1 (OpenString c) (beyond c) (open_string_r c)
  unfolding open_string_r
  open_string_exact = led_exact refl refl (byte₁ 96) λ a _. open_string_rest_exact a

  pub open_string_opens : Opens (only 96) (OpenString c)
  open_string_opens = led_opens refl refl (byte₁ 96)

  pub open_string_shuts : Shuts (only 96) (open_string_r c)
  unfolding open_string_r
  open_string_shuts = led_shuts refl refl (byte₁ 96) λ a _. open_string_rest_r c a

  pub open_string_goes : Goes (only 96) (open_string_r c)
  unfolding open_string_r
  open_string_goes = led_goes (byte_goes (only 96)) λ a _. (open_string_rest_exact a).moves

-- OF A PROPERTY
abbrev pub property_string_tree : ℕ → ℕ → List Line → Tree
property_string_tree a e ls = leaf STRING a (body_end e ls) (unescaped (body_text ls))

unfoldable pub property_string_r : ℕ → Reader Tree
property_string_r n = led_r (byte_r (is (only 96))) λ a _. below_r (property_string_tree a) n

property_trims : (a e : ℕ) (ls : List Line) → property_string_tree a e (ls ++ blank ∷ []) ≡ property_string_tree a e ls
property_trims a e ls = rw (end_blank, text_blank)

module _ (n : ℕ) where
  property_string_rest_exact : (a : ℕ) → Exact 1 (do e ← Here; Feed; Map (property_string_tree a e) (Star (BodyLine n))) (beyond n) (below_r (property_string_tree a) n)
  property_string_rest_exact a = below_exact (property_string_tree a) (property_trims a) n

  pub property_string_exact : Exact 1 (PropertyString n) (beyond n) (property_string_r n)
  unfolding property_string_r
  property_string_exact = led_exact refl refl (byte₁ 96) λ a _. property_string_rest_exact a

  pub property_string_opens : Opens (only 96) (PropertyString n)
  property_string_opens = led_opens refl refl (byte₁ 96)

  pub property_string_shuts : Shuts (only 96) (property_string_r n)
  unfolding property_string_r
  property_string_shuts = led_shuts refl refl (byte₁ 96) λ a _. below_r (property_string_tree a) n

  pub property_string_goes : Goes (only 96) (property_string_r n)
  unfolding property_string_r
  property_string_goes = led_goes (byte_goes (only 96)) λ a _. (property_string_rest_exact a).moves
