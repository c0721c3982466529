-- Readers of pieces of a line, comments and line comments, and of a thing that may be absent, each exact for the language of 01. Assumes nothing.
use Rattle.std.specs.Prelude.{◌≡◌, refl, List, [], ◌∷◌, ◌++◌, true, false, ℕ}
use Rattle.exact.specs.Class.{Class, is, only}
use Rattle.exact.specs.Out.{Reader}
use Rattle.exact.specs.Lang.{Lang, ret_r, byte_r}
use Rattle.exact.specs.Comb.{seq_r, map_r, many_r, cat, option_r}
use Rattle.exact.specs.Ll.{Shape, Ll, ret_ll, ret_s, byte₁, seq_ll, alt_ll, alt_s, star_ll, relax, word_r, word_ll}
use Rattle.language.specs.Characters.{dark, Piece, Comment, Option, LineComment}
use Rattle.utf8.specs.Char.{char_r, char_s}
use Rattle.utf8.proofs.CharLaws.{char_ll}
use Rattle.utf8.specs.Clean.{Clean, ret_clean, byte_clean, char_clean, seq_clean, alt_clean, star_clean, map_clean, word_clean}

-- PIECES: spaces, and a character that is none
abbrev pub dark_first : Class
dark_first = (char_s dark).first

abbrev pub piece_r : Reader (List ℕ)
piece_r = seq_r (many_r (is (only 32)) (byte_r (is (only 32)))) λ ss. seq_r (char_r dark) λ c. ret_r (ss ++ c)

abbrev pub piece_s : Shape
piece_s = record { null = false; first = only 32 ++ dark_first; follow = [] }

pub piece_ll : Ll piece_s Piece piece_r
piece_ll = relax piece_s refl refl refl (seq_ll refl (star_ll refl refl (byte₁ 32)) λ ss. seq_ll refl (char_ll dark) λ c. ret_ll (ss ++ c))

pub piece_clean : Clean Piece
piece_clean = seq_clean (star_clean (byte_clean (only 32) refl)) λ ss. seq_clean (char_clean dark refl) λ c. ret_clean (ss ++ c)

-- as many as there are, put together
abbrev pub pieces_r : Reader (List ℕ)
pieces_r = map_r cat (many_r (is piece_s.first) piece_r)

-- A COMMENT
abbrev pub comment_r : Reader (List ℕ)
comment_r = seq_r (byte_r (is (only 35))) λ _. pieces_r

abbrev pub comment_s : Shape
comment_s = record { null = false; first = only 35; follow = piece_s.first }

pub comment_ll : Ll comment_s Comment comment_r
comment_ll = relax comment_s refl refl refl (seq_ll refl (byte₁ 35) λ _. seq_ll refl (star_ll refl refl piece_ll) λ ps. ret_ll (cat ps))

pub comment_clean : Clean Comment
comment_clean = seq_clean (byte_clean (only 35) refl) λ _. map_clean cat (star_clean piece_clean)

-- A LINE COMMENT
abbrev pub line_comment_r : Reader (List ℕ)
line_comment_r = seq_r (word_r (32 ∷ 32 ∷ [])) λ _. comment_r

abbrev pub line_comment_s : Shape
line_comment_s = record { null = false; first = only 32; follow = piece_s.first }

pub line_comment_ll : Ll line_comment_s LineComment line_comment_r
line_comment_ll = relax line_comment_s refl refl refl (seq_ll refl (word_ll (32 ∷ 32 ∷ [])) λ _. comment_ll)

pub line_comment_clean : Clean LineComment
line_comment_clean = seq_clean (word_clean (32 ∷ 32 ∷ []) refl) λ _. comment_clean

-- AN A, OR NOTHING
abbrev pub option_s : Shape → Shape
option_s σ = alt_s σ ret_s

pub option_ll : {σ : Shape} {A : Lang (List ℕ)} {r : Reader (List ℕ)} → σ.null ≡ false → Ll σ A r → Ll (option_s σ) (Option A) (option_r σ.first r)
option_ll n la = alt_ll n refl la (ret_ll [])

pub option_clean : {A : Lang (List ℕ)} → Clean A → Clean (Option A)
option_clean c = alt_clean c (ret_clean [])

abbrev pub optional_comment_r : Reader (List ℕ)
optional_comment_r = option_r (only 32) line_comment_r

abbrev pub optional_comment_s : Shape
optional_comment_s = record { null = true; first = only 32; follow = piece_s.first }

pub optional_comment_ll : Ll optional_comment_s (Option LineComment) optional_comment_r
optional_comment_ll = relax optional_comment_s refl refl refl (option_ll refl line_comment_ll)

pub optional_comment_clean : Clean (Option LineComment)
optional_comment_clean = option_clean line_comment_clean
