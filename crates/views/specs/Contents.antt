-- A CONTENT AS CODE HAS IT: n bytes of a view. Assumes nothing.
use Rattle.std.specs.Prelude.{List, ℕ, ◌≤◌, take}
use Rattle.views.specs.declared.view.View.{View}
use Rattle.views.specs.Views.{viewed, Content}
use Rattle.views.specs.Spans.{Lies}

-- all bytes of the view: the content is the first n of them
abbrev pub all : View → List ℕ
all v = viewed v.stored.now v.starts.now v.d

abbrev pub bytes_of : View → List ℕ
bytes_of v = take v.n (all v)

-- a place of the content lies before its end
pub content_lies : {stored starts : List ℕ} {d n at : ℕ} → Content stored starts d n → at ≤ n → Lies stored starts d at n
content_lies h l = record { low = h.low; few = h.few; order = l; inside_view = h.fits }

pub lies_content : {stored starts : List ℕ} {d at n : ℕ} → Lies stored starts d at n → Content stored starts d n
lies_content h = record { low = h.low; few = h.few; fits = h.inside_view }
