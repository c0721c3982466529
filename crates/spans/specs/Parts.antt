-- BLOCK BYTES AND JOINED STRINGS in their bytes: what stands on several lines, part by part. Assumes nothing.
use Rattle.std.specs.Prelude.{List, [], ◌∷◌, ◌++◌, ℕ, suc, ◌≤◌, ◌<◌}
use Rattle.std.proofs.Common.{arith}
use Rattle.notation.specs.Lang.{Star, Indented}
use Rattle.language.specs.Kind.{STRING, BYTES, INTEGER}
use Rattle.language.specs.Tree.{Decoded, unescaped, ◌then◌, leaf}
use Rattle.language.specs.BlockText.{Part, part, part_text, part_end, HexRest, HexLine, OpenBytes, PropertyBytes}
use Rattle.language.specs.Blocks.{JoinedLine, Joined}
use Rattle.spans.specs.Every.{Every, ret_every, here_then, byte_then, bind_every, seq_every, via, map_every, alt_every, star_every, plus_every, word_then, indented_every}
use Rattle.spans.specs.Formed.{Formed, formed_text}
use Rattle.spans.specs.Lies.{Lies}
use Rattle.spans.specs.Texts.{Fits, FitsText, joined, plain_fit, option_goes, comment_goes, line_comment_goes}
use Rattle.spans.specs.Strings.{quoted_some, pairs_fits}
use Rattle.spans.specs.Body.{deeper_every}

-- parts from `at` up to at', behind a line that ends at e
pub record Parts (at : ℕ) (ps : List Part) (at' : ℕ) : Type 0 where
  pub fits : FitsText at (part_text ps) at'
  pub begins : (e : ℕ) → e < at → e ≤ part_end e ps
  pub ends : (e : ℕ) → e < at → part_end e ps < at'

pub parts_none : (at : ℕ) → Parts at [] at
parts_none at = record { fits = omega arith; begins = λ e h. omega arith; ends = λ e h. h }

pub parts_more : {at f at' : ℕ} (s : Decoded) {ps : List Part} → FitsText at s f → Parts (suc f) ps at' → Parts at (part s f ∷ ps) at'
parts_more {f = f} s {ps} k x =
    let g = x.fits in
    let b = x.begins f (omega arith) in
    let j = joined s.bytes (part_text ps).bytes in
    record { fits = omega arith; begins = λ e h. omega arith; ends = λ e h. x.ends f (omega arith) }

-- "pairs with optional line comment, or a comment"
pub hex_rest_every : (at n : ℕ) {R : Part → ℕ → Type 0} → at ≤ n → ((s : Decoded) (e : ℕ) → FitsText at s e → R (part s e) (suc e)) → Every HexRest n R
hex_rest_every at n h k =
    bind_every
    {P = Fits at}
    (alt_every
    (bind_every (pairs_fits n) (λ ps m l. bind_every (option_goes m (line_comment_goes m)) (λ c e q. ret_every (omega arith))))
    (bind_every (comment_goes n) (λ c e l. ret_every (omega arith))))
    (λ bs e l. here_then (byte_then (λ b. ret_every (k (unescaped bs) e (plain_fit at bs l)))))

pub hex_line_every : (c at : ℕ) {R : Part → ℕ → Type 0} → ((s : Decoded) (e : ℕ) → FitsText at s e → R (part s e) (suc e)) → Every (HexLine c) at R
hex_line_every c at k = deeper_every c at (λ i n h. hex_rest_every at n (omega arith) k)

pub hex_lines_every : (c at : ℕ) → Every (Star (HexLine c)) at (Parts at)
hex_lines_every c at = star_every Parts parts_none (λ a. hex_line_every c a (λ s e h ps at' x. parts_more s h x)) at

-- "two or more lines of m spaces, one quoted string and LF, joined"
pub joined_line_every : (at n : ℕ) {R : Part → ℕ → Type 0} → at ≤ n → ((s : Decoded) (e : ℕ) → FitsText at s e → R (part s e) (suc e)) → Every JoinedLine n R
joined_line_every at n h k = bind_every (quoted_some n) (λ s e l. here_then (byte_then (λ b. ret_every (k s e (by s e l.0)))))
  where
    by : (s : Decoded) (e : ℕ) → FitsText n s e → FitsText at s e
    by s e l = omega arith

pub further_every : (m at : ℕ) {R : Part → ℕ → Type 0} → ((s : Decoded) (e : ℕ) → FitsText at s e → R (part s e) (suc e)) → Every (Indented m JoinedLine) at R
further_every m at k = indented_every m (λ n h. joined_line_every at n h k)
