-- THE KEYS OF A CONTENT AS CODE HAS IT: what contracts say of a view, in the words of the other files. Assumes nothing.
use Rattle.std.specs.Prelude.{◌≡◌, List, Bool, ℕ, length}
use Rattle.std.specs.Prelude.{Option}
use Rattle.distinct.specs.Roads.{Road}
use Rattle.views.specs.declared.Reach.{Reach}
use Rattle.views.specs.declared.view.View.{View}
use Rattle.views.specs.Contents.{all, bytes_of}
use Rattle.cutkeys.specs.declared.keys.Named.{Named}
use Rattle.cutkeys.specs.declared.keys.Found.{Found}
use Rattle.cutkeys.specs.declared.copies.Short.{Short}
use Rattle.cutkeys.specs.Places.{size_of, beyond}
use Rattle.cutkeys.specs.Kept.{first_of}
use Rattle.cutkeys.specs.Keys.{Keyed, all_keys}
use Rattle.cutkeys.specs.Whole.{Names, whole_at, whole_keys}
use Rattle.cutkeys.specs.Runs.{Run}
use Rattle.cutkeys.specs.Found.{Seeks}
use Rattle.cutkeys.specs.Shorts.{Counts, SeeksShort, short_at, short_keys, inside_at}
use Rattle.cutkeys.specs.CutsPast.{SkipAsked, Skipped}
use Rattle.cutkeys.specs.CutsSought.{Asks, Meets}
use Rattle.cutkeys.specs.CutsWindow.{CutTold}

-- ---- the keys

-- all, those that stand whole, and those that are cut and short
abbrev pub keys_of : View → Road
keys_of v = all_keys v.stored.now v.starts.now v.d v.n

abbrev pub wholes_of : View → Road
wholes_of v = whole_keys v.stored.now v.starts.now v.d v.n

abbrev pub shorts_of : View → Road
shorts_of v = short_keys v.stored.now v.starts.now v.d v.n

-- whether one stands whole, or is that or in the window that is over at a place
abbrev pub whole_in : View → ℕ → Bool
whole_in v = whole_at v.stored.now v.starts.now v.d

abbrev pub inside_in : View → ℕ → ℕ → Bool
inside_in v = inside_at v.stored.now v.starts.now v.d

-- the first of them from a place on
abbrev pub whole_from : View → ℕ → ℕ
whole_from v = first_of (keys_of v) (whole_in v)

abbrev pub short_from : View → ℕ → ℕ
short_from v = first_of (keys_of v) (short_at v.stored.now v.starts.now v.d)

-- ---- one key

-- a key stands at a place
abbrev pub IsKey : View → ℕ → Type 0
IsKey v p = Keyed v.stored.now v.starts.now v.d v.n p

-- .. from where r says on
abbrev pub RunAt : View → ℕ → Reach → Type 0
RunAt v p r = Run v.stored.now v.starts.now v.d p v.n r.place r.left

-- .. and stands whole, as is said
abbrev pub IsWhole : View → ℕ → Bool → Type 0
IsWhole v p b = b ≡ whole_at v.stored.now v.starts.now v.d p

-- what is told of it, and of where the one behind it stands
abbrev pub KeyTold : View → ℕ → Named → Type 0
KeyTold v p k = Names v.starts.now v.d p (size_of (all v) p) (beyond (all v) p) k × RunAt v k.next k.reach

abbrev pub CountTold : View → ℕ → Option ℕ → Type 0
CountTold v p o = Counts v.stored.now v.starts.now v.d p o

abbrev pub InsideTold : View → ℕ → ℕ → Bool → Type 0
InsideTold v next p b = b ≡ inside_at v.stored.now v.starts.now v.d next p

-- ---- the first from a place on

abbrev pub SeekTold : View → ℕ → Option Found → Type 0
SeekTold v at o = Seeks v.stored.now v.starts.now v.d v.n at o

abbrev pub ShortTold : View → ℕ → Option Short → Type 0
ShortTold v at o = SeeksShort v.stored.now v.starts.now v.d v.n at o

abbrev pub WindowTold : View → Option ℕ → Type 0
WindowTold v w = CutTold v.stored.now v.starts.now v.d v.n w

-- ---- one that is cut, sought among all

-- from a place on, those passed that are not of n bytes or end with others than the last ones
abbrev pub SkipFrom : View → List ℕ → ℕ → ℕ → Type 0
SkipFrom v last n q = SkipAsked v.stored.now v.starts.now v.d v.n last (length last) n q

abbrev pub Skips : View → List ℕ → ℕ → ℕ → ℕ → Type 0
Skips v last n q r = Skipped v.stored.now v.starts.now v.d v.n last (length last) n q r

-- .. with the text that is the content a
abbrev pub Asking : View → View → List ℕ → Type 0
Asking v a last = Asks v.stored.now v.starts.now v.d v.n (bytes_of a) last (length last) a.n

abbrev pub Met : View → ℕ → List ℕ → Bool → Type 0
Met v p t b = Meets v.stored.now v.starts.now v.d v.n p t b
