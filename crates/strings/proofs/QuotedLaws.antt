-- The readers of quoted strings, and that they are exact.
use Rattle.std.specs.Prelude.{refl, []}
use Rattle.language.specs.Kind.{STRING}
use Rattle.language.specs.Strings.{Single, Quoted, String}
use Rattle.exact.specs.Ll.{Ll, alt_ll, relax}
use Rattle.strings.specs.Spans.{spanned_ll}
use Rattle.strings.specs.Quoted.{between_ll, between_s, double_ll, quoted_r, quoted_s, single_escape_ll, single_r, string_r, string_s, unsingle}

pub single_ll : Ll (between_s 39) Single single_r
single_ll = between_ll 39 unsingle refl refl single_escape_ll

pub quoted_ll : Ll quoted_s Quoted quoted_r
unfolding quoted_r
quoted_ll = relax quoted_s refl refl refl (alt_ll refl refl double_ll single_ll)

pub string_ll : Ll string_s String string_r
unfolding string_r
string_ll = spanned_ll STRING quoted_s.first [] quoted_ll
