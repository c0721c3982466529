-- A KEY OF A ROAD AS IT IS SHOWN (`Shown`): where its text stands, and where the key behind it does. Assumes nothing.
use Rattle.std.specs.Prelude.{◌≡◌, List, Bool, ℕ, ◌<◌}
use Rattle.std.proofs.Math.Seq.{slice}
use Rattle.exact.specs.Tells.{Tells}
use Rattle.distinct.specs.declared.Key.{Key}
use Rattle.distinct.specs.Names.{Part}
use Rattle.distinct.specs.Roads.{Road, AmongTold}
use Rattle.distinct.specs.Chains.{SitsTold}
use Rattle.distinct.specs.Ranks.{Finds}
use Rattle.std.specs.Prelude.{Option, Result}
use Rattle.repeats.specs.declared.TooLong.{TooLong}

pub record Shown (D : Road) (text : List ℕ) (r : ℕ) (k : Key) : Type 0 where
  pub part : Part text k.from k.to
  pub is : D.text r ≡ slice k.from k.to text
  pub next : k.next ≡ D.next r
  pub narrow : k.to < 4294967296

module _ (D : Road) (text : List ℕ) (r : ℕ) (k : Key) (x : Shown D text r k) where
  pub shown_is : (s : List ℕ) (b : Bool) → Tells (s ≡ slice k.from k.to text) b → Tells (s ≡ D.text r) b
  shown_is s b t = rw x.is t

  pub shown_among : (q : ℕ) (b : Bool) → AmongTold D (slice k.from k.to text) q b → AmongTold D (D.text r) q b
  shown_among q b t = rw x.is t

  module _ (words froms tos : List ℕ) (n : ℕ) where
    pub shown_sits : (s : Result (Option ℕ) TooLong) → SitsTold words froms tos n (slice k.from k.to text) s → SitsTold words froms tos n (D.text r) s
    shown_sits s t = rw x.is t

    pub shown_finds : (order : List ℕ) (s : Result ℕ ℕ) → Finds words froms tos order n (slice k.from k.to text) s → Finds words froms tos order n (D.text r) s
    shown_finds order s t = rw x.is t

pub ruleset showing = (shown_is, shown_among, shown_sits, shown_finds)
