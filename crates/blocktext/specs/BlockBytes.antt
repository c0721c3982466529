-- BLOCK BYTES, open at a column and of a property, are read exactly before what is no deeper.
use Rattle.std.proofs.Math.Path.{refl}
use Rattle.std.specs.Prelude.{List, [], ◌∷◌, true, ℕ}
use Rattle.std.proofs.Common.{arith}
use Rattle.notation.specs.Lang.{Lang, ◌>>=◌, ◌>>◌, Star, Plus, Map}
use Rattle.language.specs.Kind.{BYTES}
use Rattle.language.specs.Tree.{Tree, leaf}
use Rattle.language.specs.Characters.{Space, Feed, Comment, Option}
use Rattle.language.specs.BlockText.{Part, part_text, part_end, HexRest, HexLine, OpenBytes, PropertyBytes}
use Rattle.exact.specs.Class.{is, only, starts_none}
use Rattle.exact.specs.Out.{Reader}
use Rattle.exact.specs.Lang.{Exact, within_same, weaken, byte_r, byte_exact}
use Rattle.exact.specs.Comb.{seq_r, map_r, seq_exact, map_exact, option_r}
use Rattle.exact.specs.Ll.{Shape, Ll, seq_ll, relax, word_r, word_ll, byte₁}
use Rattle.exact.specs.More.{Goes, Shuts, byte_goes, seq_goes}
use Rattle.characters.specs.Comments.{piece_s, comment_r, comment_ll, option_ll}
use Rattle.blocktext.specs.Follow.{beyond}
use Rattle.blocktext.specs.Opens.{Opens, byte_opens, seq_opens}
use Rattle.blocktext.specs.Led.{led_r, led_exact, led_opens, led_shuts, led_goes}
use Rattle.blocktext.specs.Plus.{plus_r, plus_exact}
use Rattle.blocktext.specs.HexLines.{hex_rest_r, hex_rest_exact, hex_line_r, hex_line_exact, hex_lines_r, hex_lines_exact}

abbrev pub bytes_tree : ℕ → List Part → Tree
bytes_tree a hs = leaf BYTES a (part_end 0 hs) (part_text hs)

-- OPEN AT A COLUMN
abbrev pub open_bytes_rest_r : ℕ → ℕ → Reader Tree
open_bytes_rest_r c a = seq_r hex_rest_r λ h. map_r (λ hs. bytes_tree a (h ∷ hs)) (hex_lines_r c)

unfoldable pub open_bytes_r : ℕ → Reader Tree
open_bytes_r c = led_r (word_r (62 ∷ 32 ∷ [])) λ a _. open_bytes_rest_r c a

module _ (c : ℕ) where
  open_bytes_rest_exact : (a : ℕ) → Exact 1 (do h ← HexRest; Map (λ hs. bytes_tree a (h ∷ hs)) (Star (HexLine c))) (beyond c) (open_bytes_rest_r c a)
  open_bytes_rest_exact a =
      weaken
      1
      (beyond c)
      (omega arith)
      (within_same (beyond c))
      (seq_exact hex_rest_exact (λ h. map_exact (λ hs. bytes_tree a (h ∷ hs)) (hex_lines_exact c)) (λ x at s y at' t b g z. z))

  pub open_bytes_exact : Exact 1 (OpenBytes c) (beyond c) (open_bytes_r c)
  unfolding open_bytes_r
  open_bytes_exact = led_exact refl refl (word_ll (62 ∷ 32 ∷ [])) λ a _. open_bytes_rest_exact a

  pub open_bytes_opens : Opens (only 62) (OpenBytes c)
  open_bytes_opens = led_opens refl refl (word_ll (62 ∷ 32 ∷ []))

  pub open_bytes_shuts : Shuts (only 62) (open_bytes_r c)
  unfolding open_bytes_r
  open_bytes_shuts = led_shuts refl refl (word_ll (62 ∷ 32 ∷ [])) λ a _. open_bytes_rest_r c a

  pub open_bytes_goes : Goes (only 62) (open_bytes_r c)
  unfolding open_bytes_r
  open_bytes_goes = led_goes (seq_goes (λ _. (word_ll (32 ∷ [])).exact.moves) (byte_goes (only 62))) λ a _. (open_bytes_rest_exact a).moves

-- OF A PROPERTY: its leader may have a comment
abbrev pub LeaderComment : Lang (List ℕ)
LeaderComment = Option (Space >> Comment)

unfoldable pub leader_comment_r : Reader (List ℕ)
leader_comment_r = option_r (only 32) (seq_r (byte_r (is (only 32))) λ _. comment_r)

abbrev pub leader_comment_s : Shape
leader_comment_s = record { null = true; first = only 32; follow = piece_s.first }

pub leader_comment_ll : Ll leader_comment_s LeaderComment leader_comment_r
unfolding leader_comment_r
leader_comment_ll = relax leader_comment_s refl refl refl (option_ll refl (seq_ll refl (byte₁ 32) λ _. comment_ll))

abbrev pub property_bytes_rest_r : ℕ → ℕ → Reader Tree
property_bytes_rest_r n a = seq_r leader_comment_r λ _. seq_r (byte_r (is (only 10))) λ _. map_r (bytes_tree a) (plus_r (hex_line_r n) (hex_lines_r n))

unfoldable pub property_bytes_r : ℕ → Reader Tree
property_bytes_r n = led_r (byte_r (is (only 62))) λ a _. property_bytes_rest_r n a

module _ (n : ℕ) where
  property_bytes_rest_exact : (a : ℕ) → Exact 1 (do LeaderComment; Feed; Map (bytes_tree a) (Plus (HexLine n))) (beyond n) (property_bytes_rest_r n a)
  property_bytes_rest_exact a =
      weaken
      1
      (beyond n)
      (omega arith)
      (within_same (beyond n))
      (seq_exact
      leader_comment_ll.exact
      (λ _.
      seq_exact (byte_exact (is (only 10)) 10 refl) (λ _. map_exact (bytes_tree a) (plus_exact (hex_line_exact n) (hex_lines_exact n))) (λ x at s y at' t b g z. z))
      (λ x at s y at' t b g z. starts_none (only 10) piece_s.first s refl ((seq_opens (byte_opens (only 10))).opens at s y at' t b) z))

  pub property_bytes_exact : Exact 1 (PropertyBytes n) (beyond n) (property_bytes_r n)
  unfolding property_bytes_r
  property_bytes_exact = led_exact refl refl (byte₁ 62) λ a _. property_bytes_rest_exact a

  pub property_bytes_opens : Opens (only 62) (PropertyBytes n)
  property_bytes_opens = led_opens refl refl (byte₁ 62)

  pub property_bytes_shuts : Shuts (only 62) (property_bytes_r n)
  unfolding property_bytes_r
  property_bytes_shuts = led_shuts refl refl (byte₁ 62) λ a _. property_bytes_rest_r n a

  pub property_bytes_goes : Goes (only 62) (property_bytes_r n)
  unfolding property_bytes_r
  property_bytes_goes = led_goes (byte_goes (only 62)) λ a _. (property_bytes_rest_exact a).moves
