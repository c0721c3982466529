-- WHETHER NO TWO KEYS HAVE ONE TEXT, as `apart` finds it: no two that stand whole, and none that is cut with another. Assumes nothing.
use Rattle.std.specs.Prelude.{◌≡◌, List, Bool, true, false, ℕ, ◌<◌}
use Rattle.std.proofs.Common.{arith, rules}
use Rattle.distinct.specs.Roads as roads
use Rattle.distinct.specs.Windows.{Open}
use Rattle.views.specs.Views.{viewed, Content}
use Rattle.views.specs.Contents.{content_lies}
use Rattle.views.specs.Spans.{Lies}
use Rattle.wide.specs.Keys.{Counted, ApartTold}
use Rattle.cutkeys.specs.Kept.{first_of}
use Rattle.cutkeys.specs.Alone.{AloneTold, told_no, told_both}
use Rattle.cutkeys.specs.Keys.{all_keys, keys_open, keys_apart}
use Rattle.cutkeys.specs.Whole.{whole_at, whole_keys}

module _ (stored starts : List ℕ) (d stop : ℕ) (l : d < 34) (c : Content stored starts d stop) where
  h : Lies stored starts d 0 stop
  h = content_lies c (omega arith)

  pub apart_open : (n : ℕ) → Counted (viewed stored starts d) stop n → Open (all_keys stored starts d stop) 0
  apart_open n k = keys_open stored starts d stop n l h k

  module _ (b : Bool) (t : roads.ApartTold (whole_keys stored starts d stop) (first_of (all_keys stored starts d stop) (whole_at stored starts d) 0) b) where
    pub apart_no : b ≡ false → ApartTold (viewed stored starts d) stop false
    apart_no e = keys_apart stored starts d stop l h false (told_no (all_keys stored starts d stop) (whole_at stored starts d) 0 (rw e at t))

    pub apart_both : b ≡ true → (s : Bool) → AloneTold (all_keys stored starts d stop) (whole_at stored starts d) 0 s → ApartTold (viewed stored starts d) stop s
    apart_both e s a = keys_apart stored starts d stop l h s (told_both (all_keys stored starts d stop) (whole_at stored starts d) 0 (rw e at t) s a)

pub ruleset telling = (apart_open, apart_no, apart_both, rules)
