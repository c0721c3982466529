-- The reader of keys, and that it is exact before what begins with no byte of a bare key.
use Rattle.std.specs.Prelude.{refl}
use Rattle.notation.specs.Lang.{Byte, Map, Plus, Alt}
use Rattle.language.specs.Kind.{KEY}
use Rattle.language.specs.Tree.{unescaped}
use Rattle.language.specs.Strings.{keybyte, Key, Quoted}
use Rattle.exact.specs.Class.{is}
use Rattle.exact.specs.Ll.{Ll, ret_ll, seq_ll, alt_ll, relax}
use Rattle.strings.specs.Spans.{spanned_ll}
use Rattle.strings.proofs.QuotedLaws.{quoted_ll}
use Rattle.strings.specs.Keys.{bare_ll, key_r, key_s, name_r}

name_ll : Ll key_s (Alt (Map unescaped (Plus (Byte (is keybyte)))) Quoted) name_r
unfolding name_r
name_ll = relax key_s refl refl refl (alt_ll refl refl (seq_ll refl bare_ll λ s. ret_ll (unescaped s)) quoted_ll)

pub key_ll : Ll key_s Key key_r
unfolding key_r
key_ll = spanned_ll KEY key_s.first keybyte name_ll
