-- THE KEYS THAT ARE CUT, by a window of the short ones: what is told of it (`CutTold`), and of those outside it, each sought among all others. Assumes nothing.
use Rattle.std.specs.Prelude.{◌≡◌, refl, List, Bool, true, false, ℕ, ◌-◌, ◌≤◌, ◌<◌, length, replicate, Option, Some, None, Result, Ok, Err, IsErr}
use Rattle.std.proofs.Common.{sym, subst, ◌∙◌, arith, rules}
use Rattle.std.proofs.lemmas.List.{length-replicate}
use Rattle.exact.specs.Tells.{tells_yes, tells_no}
use Rattle.exact.specs.Class.{clash}
use Rattle.distinct.specs.declared.Taken.{Taken}
use Rattle.repeats.specs.declared.TooLong.{TooLong}
use Rattle.repeats.specs.Later.{zeros}
use Rattle.repeats.specs.Links.{chains_none}
use Rattle.distinct.specs.Names.{Held, text_keys}
use Rattle.distinct.specs.Chains.{Starting}
use Rattle.distinct.specs.Roads.{Road, comes_first}
use Rattle.distinct.specs.Window.{Leads, ClashTold, ClashLooked, clash_long, looked_yes, looked_no}
use Rattle.distinct.specs.Windows.{Open, Going, open_good, open_less}
use Rattle.views.specs.Views.{viewed}
use Rattle.cutkeys.specs.declared.keys.Named.{Named}
use Rattle.cutkeys.specs.Places.{size_of, beyond}
use Rattle.cutkeys.specs.Kept.{kept, first_of, kept_open, walks_to}
use Rattle.cutkeys.specs.Keys.{Keyed, all_keys}
use Rattle.cutkeys.specs.Whole.{Names, whole_at, whole_keys}
use Rattle.cutkeys.specs.Runs.{run_none}
use Rattle.cutkeys.specs.Alone.{Alone, AloneTold, OtherTold, alone_over, alone_met, alone_on}
use Rattle.cutkeys.specs.Spared.{Spares, spares_none, spares_told, clash_lone, clash_spares}
use Rattle.cutkeys.specs.Shorts.{short_at, short_keys, short_cut, inside_at, whole_told}

-- WHAT IS TOLD OF THE WINDOW: a key that is cut is not alone; or all are if those are that are not in it, where it is over at q
abbrev pub CutTold : List ℕ → List ℕ → ℕ → ℕ → Option ℕ → Type 0
CutTold stored starts d stop None = AloneTold (all_keys stored starts d stop) (whole_at stored starts d) 0 false
CutTold stored starts d stop (Some q) = Spares (all_keys stored starts d stop) (whole_at stored starts d) (short_at stored starts d) q

-- chains with nothing in them
pub chains_first : (room froms tos : List ℕ) (n : ℕ) → Held room froms tos n → n ≤ 640 → Starting room froms tos (replicate 4096 0) (replicate 640 0) n
chains_first room froms tos n h l =
    record {
      held = h;
      room = omega (arith, length-replicate {A = ℕ} 640 0);
      chains = chains_none (text_keys room froms tos) (replicate 4096 0) (replicate 640 0) (length-replicate {A = ℕ} 4096 0) (zeros 4096) (zeros 640);
    }

-- a look that is broken off tells nothing
pub clash_broken : (D : Road) (room froms tos : List ℕ) (n p : ℕ) (w : Result Bool TooLong) → IsErr w → ClashLooked D room froms tos n p w
clash_broken D room froms tos n p (Err e) y = clash_long D room froms tos n p e
clash_broken D room froms tos n p (Ok b) y = absurd (cc)

module _ (stored starts : List ℕ) (d stop : ℕ) where
  abbrev D : Road
  D = all_keys stored starts d stop

  abbrev f : ℕ → Bool
  f = whole_at stored starts d

  abbrev g : ℕ → Bool
  g = short_at stored starts d

  -- ---- what clashes

  module _ (p : ℕ) (e : p ≡ first_of D f 0) where
    pub clash_open : Open D 0 → Open (whole_keys stored starts d stop) p
    clash_open o = subst (Open (whole_keys stored starts d stop)) (sym e) (kept_open D f 0 o)

    pub clash_told : (room froms tos : List ℕ) (n : ℕ) (b : Bool) → ClashTold (whole_keys stored starts d stop) room froms tos n p b → ClashTold (whole_keys stored starts d stop) room froms tos n (first_of D f 0) b
    clash_told room froms tos n b t = subst (λ (q : ℕ). ClashTold (whole_keys stored starts d stop) room froms tos n q b) e t

    module _ (room froms tos : List ℕ) (n : ℕ) where
      pub clash_ok : (w : Result Bool TooLong) → ClashLooked (whole_keys stored starts d stop) room froms tos n p w → (b : Bool) → w ≡ Ok b
          → ClashTold (whole_keys stored starts d stop) room froms tos n (first_of D f 0) b
      clash_ok w t true z = clash_told room froms tos n true (looked_yes (whole_keys stored starts d stop) room froms tos n p w t z)
      clash_ok w t false z = clash_told room froms tos n false (looked_no (whole_keys stored starts d stop) room froms tos n p w t z)

  -- ---- the window

  module _ (room froms tos : List ℕ) (w : Taken) (x : Leads (short_keys stored starts d stop) room froms tos (first_of D g 0) w.n w.next) where
    pub window_held : Held room froms tos w.n
    window_held = x.held

    pub window_few : length froms ≡ 640 → w.n ≤ 640
    window_few e = omega (arith, x.held.from_room)

    module _ (b : Bool) (t : ClashTold (whole_keys stored starts d stop) room froms tos w.n (first_of D f 0) b) where
      pub window_twice : b ≡ true → CutTold stored starts d stop None
      window_twice e rs u = clash_lone D f g (short_cut stored starts d) room froms tos w.n w.next x rs u (tells_yes b e (t (kept f rs) (walks_to D f u)))

      pub window_on : b ≡ false → CutTold stored starts d stop (Some w.next)
      window_on e = clash_spares D f g (short_cut stored starts d) room froms tos w.n w.next x (λ rs u. tells_no b e (t (kept f rs) (walks_to D f u)))

  pub window_none : CutTold stored starts d stop (Some 0)
  window_none = spares_none D f g

  -- ---- all that are cut

  module _ (w : Option ℕ) (t : CutTold stored starts d stop w) where
    pub cut_twice : w ≡ None → AloneTold D f 0 false
    cut_twice e = let z : CutTold stored starts d stop None = rw e at t in z

    pub cut_on : (q : ℕ) → w ≡ Some q → (b : Bool) → AloneTold D (inside_at stored starts d q) 0 b → AloneTold D f 0 b
    cut_on q e b a = let z : CutTold stored starts d stop (Some q) = rw e at t in spares_told D f g q z b a

pub ruleset clashes = (run_none, clash_open, clash_told, rules)

pub ruleset windowed = (window_held, window_few, window_twice, window_on, rules)

pub ruleset onward = (run_none, window_none, rules)

pub ruleset cutting = (cut_twice, cut_on, rules)

-- ---- those outside the window

-- none of these has the text of another key
abbrev pub RestAlone : List ℕ → List ℕ → ℕ → ℕ → ℕ → List ℕ → Type 0
RestAlone stored starts d stop next = Alone (all_keys stored starts d stop) (inside_at stored starts d next) 0

module _ (stored starts : List ℕ) (d stop next : ℕ) where
  abbrev E : Road
  E = all_keys stored starts d stop

  abbrev h : ℕ → Bool
  h = inside_at stored starts d next

  pub rest_first : Open E 0 → Going E (RestAlone stored starts d stop next) 0 0
  rest_first k = record { keys = k; comes = comes_first E }

  module _ (p : ℕ) (w : Going E (RestAlone stored starts d stop next) 0 p) where
    pub rest_over : stop ≤ p → AloneTold E h 0 true
    rest_over l = alone_over E h 0 p w l

    module _ (l : p < stop) where
      pub rest_keyed : Keyed stored starts d stop p
      rest_keyed = open_good E p w.keys l

      module _ (k : Named) (z : Names starts d p (size_of (viewed stored starts d) p) (beyond (viewed stored starts d) p) k) where
        pub rest_less : stop - k.next < stop - p
        rest_less = open_less E p w.keys l k.next z.next

        module _ (c : Bool) (e : c ≡ inside_at stored starts d next p) where
          pub rest_inside : c ≡ true → Going E (RestAlone stored starts d stop next) 0 k.next
          rest_inside y = alone_on E h 0 p w l false (λ i. absurd (clash (sym e ∙ y) i)) refl k.next z.next

          module _ (y : c ≡ false) (b : Bool) (t : OtherTold E 0 p b) where
            pub rest_met : b ≡ true → AloneTold E h 0 false
            rest_met x = alone_met E h 0 p w l true (sym e ∙ y, subst (OtherTold E 0 p) x t) refl

            pub rest_on : b ≡ false → Going E (RestAlone stored starts d stop next) 0 k.next
            rest_on x = alone_on E h 0 p w l false (λ i. subst (OtherTold E 0 p) x t) refl k.next z.next

pub ruleset resting = (run_none, rest_first, rest_over, rest_keyed, whole_told, rest_less, rest_inside, rest_met, rest_on, rules)
