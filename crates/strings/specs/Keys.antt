-- The reader of keys, and that it is exact before what begins with no byte of a bare key.
use Rattle.std.specs.Prelude.{refl, List, ◌∷◌, ◌++◌, ℕ}
use Rattle.notation.specs.Lang.{Byte, Plus}
use Rattle.language.specs.Kind.{KEY}
use Rattle.language.specs.Tree.{Decoded, unescaped, Tree}
use Rattle.language.specs.Strings.{keybyte}
use Rattle.exact.specs.Class.{is}
use Rattle.exact.specs.Out.{Reader}
use Rattle.exact.specs.Lang.{ret_r, byte_r}
use Rattle.exact.specs.Comb.{seq_r, map_r, alt_r, many_r}
use Rattle.exact.specs.Ll.{Shape, Ll, ret_ll, byte_ll, seq_ll, star_ll, relax}
use Rattle.strings.specs.Spans.{solid, spanned_r}
use Rattle.strings.specs.Quoted.{quoted_r, quoted_s}

-- a bare key
unfoldable pub bare_r : Reader (List ℕ)
bare_r = seq_r (byte_r (is keybyte)) λ v. seq_r (many_r (is keybyte) (byte_r (is keybyte))) λ vs. ret_r (v ∷ vs)

abbrev pub bare_s : Shape
bare_s = solid keybyte keybyte

pub bare_ll : Ll bare_s (Plus (Byte (is keybyte))) bare_r
unfolding bare_r
bare_ll = relax bare_s refl refl refl (seq_ll refl (byte_ll keybyte 97 refl) λ v. seq_ll refl (star_ll refl refl (byte_ll keybyte 97 refl)) λ vs. ret_ll (v ∷ vs))

-- a key, bare or quoted
unfoldable pub name_r : Reader Decoded
name_r = alt_r (is keybyte) (map_r unescaped bare_r) quoted_r

abbrev pub key_s : Shape
key_s = solid (keybyte ++ quoted_s.first) keybyte

unfoldable pub key_r : Reader Tree
key_r = spanned_r KEY name_r
