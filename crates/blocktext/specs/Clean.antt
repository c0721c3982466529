-- Block strings, block bytes and joined strings are whole allowed characters.
use Rattle.std.specs.Prelude.{refl, [], ◌∷◌, ◌++◌, ℕ, length}
use Rattle.notation.specs.Lang.{Lang, Star, cat}
use Rattle.language.specs.Kind.{STRING, BYTES}
use Rattle.language.specs.Tree.{leaf, unescaped}
use Rattle.language.specs.Characters.{dark, Space, Feed}
use Rattle.language.specs.BlockText.{blank, line, part, body_text, body_end, part_text, part_end, Deeper, TextLine, BodyLine, OpenString, PropertyString, HexRest, HexLine, OpenBytes, PropertyBytes}
use Rattle.language.specs.Blocks.{JoinedLine, Joined}
use Rattle.exact.specs.Class.{only}
use Rattle.utf8.specs.Clean.{Clean, ret_clean, here_clean, byte_clean, char_clean, seq_clean, alt_clean, star_clean, plus_clean, map_clean, indented_clean, word_clean}
use Rattle.characters.specs.Comments.{piece_clean, comment_clean, option_clean, optional_comment_clean}
use Rattle.strings.specs.Clean.{quoted_clean, pairs_clean}
use Rattle.blocktext.specs.LineEnd.{LineEnd}

pub space_clean : Clean Space
space_clean = byte_clean (only 32) refl

pub feed_clean : Clean Feed
feed_clean = byte_clean (only 10) refl

line_end_clean : {X : Type 0} (f : ℕ → X) → Clean (LineEnd f)
line_end_clean f = seq_clean here_clean λ e. seq_clean feed_clean λ _. ret_clean (f e)

deeper_clean : {X : Type 0} (c : ℕ) {A : ℕ → Lang X} → ((i : ℕ) → Clean (A i)) → Clean (Deeper c A)
deeper_clean c h = indented_clean c (seq_clean space_clean λ _. seq_clean (star_clean space_clean) λ ss. h (length ss))

-- STRINGS
text_line_clean : (i : ℕ) → Clean (TextLine i)
text_line_clean i = seq_clean (char_clean dark refl) λ d. seq_clean (star_clean piece_clean) λ ps. line_end_clean (line i (d ++ cat ps))

body_clean : (c : ℕ) → Clean (Star (BodyLine c))
body_clean c = star_clean (alt_clean (seq_clean feed_clean λ _. ret_clean blank) (deeper_clean c text_line_clean))

pub open_string_clean : (c : ℕ) → Clean (OpenString c)
open_string_clean c =
    seq_clean here_clean λ a.
    seq_clean (byte_clean (only 96) refl) λ _.
    seq_clean (option_clean (seq_clean space_clean λ _. seq_clean (plus_clean piece_clean) λ ps. ret_clean (cat ps))) λ t.
    seq_clean here_clean λ e. seq_clean feed_clean λ _. map_clean (λ ls. leaf STRING a (body_end e ls) (unescaped (t ++ 10 ∷ body_text ls))) (body_clean c)

pub property_string_clean : (n : ℕ) → Clean (PropertyString n)
property_string_clean n =
    seq_clean here_clean λ a.
    seq_clean (byte_clean (only 96) refl) λ _.
    seq_clean here_clean λ e. seq_clean feed_clean λ _. map_clean (λ ls. leaf STRING a (body_end e ls) (unescaped (body_text ls))) (body_clean n)

-- BYTES
hex_rest_clean : Clean HexRest
hex_rest_clean =
    seq_clean
    (alt_clean (seq_clean pairs_clean λ ps. seq_clean optional_comment_clean λ _. ret_clean ps) (seq_clean comment_clean λ _. ret_clean []))
    λ bs. line_end_clean (part (unescaped bs))

hex_line_clean : (c : ℕ) → Clean (HexLine c)
hex_line_clean c = deeper_clean c λ _. hex_rest_clean

pub open_bytes_clean : (c : ℕ) → Clean (OpenBytes c)
open_bytes_clean c =
    seq_clean here_clean λ a.
    seq_clean (word_clean (62 ∷ 32 ∷ []) refl) λ _.
    seq_clean hex_rest_clean λ h. map_clean (λ hs. leaf BYTES a (part_end 0 (h ∷ hs)) (part_text (h ∷ hs))) (star_clean (hex_line_clean c))

pub property_bytes_clean : (n : ℕ) → Clean (PropertyBytes n)
property_bytes_clean n =
    seq_clean here_clean λ a.
    seq_clean (byte_clean (only 62) refl) λ _.
    seq_clean (option_clean (seq_clean space_clean λ _. comment_clean)) λ _.
    seq_clean feed_clean λ _. map_clean (λ hs. leaf BYTES a (part_end 0 hs) (part_text hs)) (plus_clean (hex_line_clean n))

-- JOINED STRINGS
joined_line_clean : Clean JoinedLine
joined_line_clean = seq_clean quoted_clean λ s. line_end_clean (part s)

pub joined_clean : (m : ℕ) → Clean (Joined m)
joined_clean m =
    seq_clean here_clean λ a.
    seq_clean joined_line_clean λ p. map_clean (λ ps. leaf STRING a (part_end 0 ps) (part_text (p ∷ ps))) (plus_clean (indented_clean m joined_line_clean))
