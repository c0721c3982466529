-- PROPERTIES AND OBJECTS: read exactly before what is no further property, decided by a key and its colon; more allowance.
use Rattle.std.proofs.Math.Path.{refl}
use Rattle.std.specs.Prelude.{◌++◌, ℕ, suc, ◌<◌}
use Rattle.std.proofs.Common.{arith}
use Rattle.language.specs.Tree.{Tree, Field, field, block_object}
use Rattle.language.specs.Strings.{Key}
use Rattle.language.specs.BlockText.{PropertyString, PropertyBytes}
use Rattle.language.specs.Blocks.{ValueLine, Property, Object}
use Rattle.exact.specs.Class.{is, only}
use Rattle.exact.specs.Out.{Reader}
use Rattle.exact.specs.Lang.{Lang, Exact, within_none, weaken, byte_r}
use Rattle.exact.specs.Comb.{seq_r, map_r, map_exact, Alt, alt_r}
use Rattle.exact.specs.Ll.{ret_ll, byte₁}
use Rattle.exact.specs.Grow.{Sub, sub_refl, seq_sub, alt_sub}
use Rattle.exact.specs.More.{OneMore, steady, calm, seq_more, alt_more, Shuts, ll_shuts}
use Rattle.numbers.specs.Opening.{seq_shuts}
use Rattle.strings.specs.Keys.{key_s, key_r}
use Rattle.strings.proofs.KeysLaws.{key_ll}
use Rattle.inline.specs.Lists.{value_first}
use Rattle.blocktext.specs.Follow.{beyond, lines, lines_beyond}
use Rattle.blocktext.specs.BlockStrings.{property_string_r, property_string_exact, property_string_opens}
use Rattle.blocktext.specs.BlockBytes.{property_bytes_r, property_bytes_exact, property_bytes_opens}
use Rattle.blocks.specs.First.{Opens, byte_opens, seq_opens, alt_opens, ll_opens, byte_then, first_exact, alt_swap, alt_group}
use Rattle.blocks.specs.Lines.{lines_r, lines_exact, lines_more, lines_sub}
use Rattle.blocks.specs.Rest.{Rest, rest_r, rest_more, rest_sub}
use Rattle.blocks.specs.Look.{Decided, seq_decided}
use Rattle.blocks.specs.KeyLook.{key_look, key_stop, key_decided}
use Rattle.blocks.specs.ValueLine.{comment_end_r, CommentEnd, comment_ending, line_r, line_opens, line_more, line_sub}

-- BEHIND THE COLON'S SPACE: a block string or block bytes by their first byte, else a line value
abbrev pub On : ℕ → ℕ → Lang Tree
On k n = Alt (ValueLine k) (Alt (PropertyString n) (PropertyBytes n))

unfoldable pub on_r : ℕ → ℕ → Reader Tree
on_r k n = alt_r (is (only 96)) (property_string_r n) (alt_r (is (only 62)) (property_bytes_r n) (line_r comment_end_r k))

pub on_opens : (k n : ℕ) → Opens (value_first ++ (only 96 ++ only 62)) (On k n)
on_opens k n = alt_opens (line_opens comment_ending k) (alt_opens (property_string_opens n) (property_bytes_opens n))

pub on_more : (k j n : ℕ) → k < j → OneMore (on_r k n) (on_r (suc k) n) (on_r j n)
unfolding on_r
on_more k j n l =
    alt_more
    (is (only 96))
    (steady (property_string_exact n).moves)
    (alt_more (is (only 62)) (steady (property_bytes_exact n).moves) (line_more comment_ending k j l))

-- A PROPERTY, with the reader of what is nested in it
unfoldable pub property_r : ℕ → ℕ → Reader Tree → Reader Field
property_r k n r = seq_r key_r λ ky. seq_r (byte_r (is (only 58))) λ _. map_r (field ky) (rest_r (on_r k n) r)

pub property_opens : (k n : ℕ) (N : Lang Tree) → Opens key_s.first (Property k n N)
property_opens k n N = seq_opens (ll_opens refl key_ll)

pub property_shuts : (k n : ℕ) (r : Reader Tree) → Shuts key_s.first (property_r k n r)
unfolding property_r
property_shuts k n r = seq_shuts _ (ll_shuts refl key_ll)

-- AN OBJECT
unfoldable pub object_r : ℕ → ℕ → Reader Tree → Reader Tree
object_r k n r = map_r block_object (lines_r key_s.first n (property_r k n r))

pub object_opens : (k n : ℕ) (N : Lang Tree) → Opens key_s.first (Object k n N)
object_opens k n N = seq_opens (seq_opens (property_opens k n N))

pub object_sub : (k n : ℕ) {N N' : Lang Tree} → Sub N N' → Sub (Object k n N) (Object (suc k) n N')
object_sub k n e =
    seq_sub
    (lines_sub
    n
    (seq_sub (sub_refl Key) λ ky. seq_sub (sub_refl _) λ _. seq_sub (rest_sub (alt_sub (line_sub CommentEnd k) (sub_refl _)) e) λ v. sub_refl _))
    λ fs. sub_refl _
