-- BLOCK BYTES AND JOINED STRINGS in their bytes: what stands on several lines, part by part. Assumes nothing.
use Rattle.std.specs.Prelude.{List, [], ◌∷◌, ◌++◌, ℕ, suc, ◌≤◌, ◌<◌}
use Rattle.std.proofs.Common.{arith}
use Rattle.notation.specs.Lang.{Star, Indented}
use Rattle.language.specs.Kind.{STRING, BYTES, INTEGER}
use Rattle.language.specs.Tree.{Decoded, unescaped, ◌then◌, leaf}
use Rattle.language.specs.BlockText.{Part, part, part_text, part_end, HexRest, HexLine, OpenBytes, PropertyBytes}
use Rattle.language.specs.Blocks.{JoinedLine, Joined}
use Rattle.spans.specs.Every.{Every, ret_every, here_then, byte_then, bind_every, seq_every, via, map_every, alt_every, star_every, plus_every, word_then, indented_every}
use Rattle.spans.specs.Formed.{Formed, formed_text}
use Rattle.spans.specs.Lies.{Lies}
use Rattle.spans.proofs.LiesLaws.{leaf_lies}
use Rattle.spans.specs.Texts.{Fits, FitsText, joined, plain_fit, option_goes, comment_goes, line_comment_goes}
use Rattle.spans.specs.Strings.{quoted_some, pairs_fits}
use Rattle.spans.specs.Body.{deeper_every}
use Rattle.spans.specs.Parts.{Parts, further_every, hex_line_every, hex_lines_every, hex_rest_every, joined_line_every, parts_more, parts_none}

-- a leaf whose first line ends at f, or whose second does
line_leaf : {k a f at' : ℕ} {s : Decoded} {ps : List Part} → INTEGER ≤ k → k ≤ BYTES → a < f → Parts (suc f) ps at' → FitsText (suc a) s at'
    → Lies Formed 1 a (leaf k a (part_end f ps) s) at'
line_leaf {f = f} o p h x l =
    let b = x.begins f (omega arith) in
    let e = x.ends f (omega arith) in
    leaf_lies (formed_text o p) (omega arith) (omega arith) (omega arith) (omega arith)

bytes_leaf : {a b f at' : ℕ} (s : Decoded) {ps : List Part} → a < b → FitsText b s f → Parts (suc f) ps at'
    → Lies Formed 1 a (leaf BYTES a (part_end f ps) (s then part_text ps)) at'
bytes_leaf s {ps} h l x = let g = x.fits in line_leaf (omega arith) (omega arith) (omega arith) x (omega (arith, joined s.bytes (part_text ps).bytes))

joined_leaf : {a e f at' : ℕ} (s u : Decoded) {ps : List Part} → FitsText a s e → FitsText (suc e) u f → Parts (suc f) ps at'
    → Lies Formed 1 a (leaf STRING a (part_end f ps) (s then u then part_text ps)) at'
joined_leaf s u {ps} h l x =
    let g = x.fits in
    line_leaf (omega arith) (omega arith) (omega arith) x (omega (arith, joined s.bytes (u.bytes ++ (part_text ps).bytes), joined u.bytes (part_text ps).bytes))

pub open_bytes_lies : (c at : ℕ) → Every (OpenBytes c) at (Lies Formed 1 at)
open_bytes_lies c at =
    here_then
    (word_then
    (62 ∷ 32 ∷ [])
    (λ m h. seq_every
    (hex_rest_every m m (omega arith) (λ s e l. map_every _ (via (hex_lines_every c (suc e)) (λ hs at' x. bytes_leaf s (omega arith) l x))))))

pub property_bytes_lies : (n at : ℕ) → Every (PropertyBytes n) at (Lies Formed 1 at)
property_bytes_lies n at =
    here_then
    (byte_then
    (λ g. bind_every
    (option_goes (suc at) (byte_then (λ b. via (comment_goes (suc (suc at))) (λ c m h. omega arith))))
    (λ c m h. byte_then
    (λ b. map_every
    _
    (plus_every Parts (hex_lines_every n) (hex_line_every n (suc m) (λ s e l hs at' x. bytes_leaf s (omega arith) l x)))))))

pub joined_lies : (m at : ℕ) → Every (Joined m) at (Lies Formed 1 at)
joined_lies m at =
    here_then
    (seq_every
    (joined_line_every
    at
    at
    (omega arith)
    (λ s e h. map_every
    _
    (plus_every
    Parts
    (star_every Parts parts_none (λ a. further_every m a (λ u f l ps at' x. parts_more u l x)))
    (further_every m (suc e) (λ u f l ps at' x. joined_leaf s u h l x))))))
