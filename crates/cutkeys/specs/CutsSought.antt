-- A KEY THAT IS CUT, sought among all others (`Asks`): whether another one has its text (`Meets`). Assumes nothing.
use Rattle.std.specs.Prelude.{◌≡◌, refl, List, Bool, true, false, ℕ, ◌+◌, ◌-◌, ◌≤◌, ◌<◌, length, take}
use Rattle.std.proofs.Common.{subst, arith, length-take-le, rules}
use Rattle.exact.specs.Tells.{Tells, tells_yes, tells_no, tells_map}
use Rattle.language.specs.Lent.{lent}
use Rattle.distinct.specs.Roads.{Road, Walks, walks_le, comes_both}
use Rattle.distinct.specs.Windows.{Open, Going, open_good, open_next, open_less}
use Rattle.views.specs.Views.{viewed, Content, Deeper}
use Rattle.cutkeys.specs.declared.keys.Named.{Named}
use Rattle.cutkeys.specs.declared.keys.Size.{Size}
use Rattle.cutkeys.specs.Places.{size_of, text_at, beyond}
use Rattle.cutkeys.specs.Keys.{Stands, Keyed, all_keys}
use Rattle.cutkeys.specs.Whole.{Names}
use Rattle.cutkeys.specs.Runs.{run_none}
use Rattle.cutkeys.specs.Found.{Sized}
use Rattle.cutkeys.specs.Alone.{Other, OtherTold, other_over, other_met, other_on}
use Rattle.cutkeys.specs.CutsEnds.{Ends, Tail, tail_ends, ends_last}
use Rattle.cutkeys.specs.CutsSame.{own_content, own_text, own_deep, own_few}
use Rattle.cutkeys.specs.CutsPast.{Skipped, SkipAsked}

-- the key at q is another than that at p, and has the text t
pub record Another (text : ℕ → List ℕ) (p : ℕ) (t : List ℕ) (q : ℕ) : Type 0 where
  pub other : q ≡ p → ⊥
  pub same : t ≡ text q

module _ (text : ℕ → List ℕ) (p : ℕ) (t : List ℕ) (q : ℕ) where
  pub another_own : q ≡ p → Another text p t q → ⊥
  another_own e x = x.other e

  pub another_told : (q ≡ p → ⊥) → (b : Bool) → Tells (t ≡ text q) b → Tells (Another text p t q) b
  another_told f b x = tells_map (λ e. record { other = f; same = e }) (λ y. y.same) b x

pub ruleset othering = (another_own, another_told, rules)

-- the key behind that at q, and from there on
module _ (stored starts : List ℕ) (d stop : ℕ) (room : List ℕ) (m n q : ℕ) (h : SkipAsked stored starts d stop room m n q) (l : q < stop) where
  pub from_keyed : Keyed stored starts d stop q
  from_keyed = open_good (all_keys stored starts d stop) q h.keys l

  module _ (k : Named) (z : Names starts d q (size_of (viewed stored starts d) q) (beyond (viewed stored starts d) q) k) where
    pub from_asked : SkipAsked stored starts d stop room m n k.next
    from_asked = record { keys = open_next (all_keys stored starts d stop) q h.keys l k.next z.next; some = h.some; held = h.held }

    pub from_told : (r : ℕ) → Skipped stored starts d stop room m n k.next r → Skipped stored starts d stop room m n (beyond (viewed stored starts d) q) r
    from_told r s = subst (λ (i : ℕ). Skipped stored starts d stop room m n i r) z.next s

pub ruleset fromwards = (run_none, from_keyed, from_asked, from_told, rules)

-- what is asked: keys from 0 on, a text t of n bytes, and its last m in the room
pub record Asks (stored starts : List ℕ) (d stop : ℕ) (t room : List ℕ) (m n : ℕ) : Type 0 where
  pub keys : Open (all_keys stored starts d stop) 0
  pub some : m ≤ n
  pub held : m ≤ length room
  pub ends : Ends t room m n

-- what is told: whether a key other than p has the text t
abbrev pub Meets : List ℕ → List ℕ → ℕ → ℕ → ℕ → List ℕ → Bool → Type 0
Meets stored starts d stop p t b = (rs : List ℕ) → Walks (all_keys stored starts d stop) 0 rs → Tells (Other (text_at (viewed stored starts d)) p t rs) b

-- the walk has come to q
pub record Hunts (stored starts : List ℕ) (d stop p : ℕ) (t : List ℕ) (q : ℕ) : Type 0 where
  pub going : Going (all_keys stored starts d stop) (Other (text_at (viewed stored starts d)) p t) 0 q

module _ (stored starts : List ℕ) (d stop : ℕ) (t room : List ℕ) (m n : ℕ) (h : Asks stored starts d stop t room m n) where
  abbrev D : Road
  D = all_keys stored starts d stop

  pub sought_asked : SkipAsked stored starts d stop room m n 0
  sought_asked = record { keys = h.keys; some = h.some; held = h.held }

  pub sought_first : (p q : ℕ) → Skipped stored starts d stop room m n 0 q → Hunts stored starts d stop p t q
  sought_first p q s = record { going = record { keys = s.keys; comes = s.pass p t h.ends } }

  module _ (p q : ℕ) (w : Hunts stored starts d stop p t q) where
    pub sought_over : stop ≤ q → Meets stored starts d stop p t false
    sought_over l = other_over D p t 0 q w.going l

    module _ (l : q < stop) where
      pub sought_keyed : Keyed stored starts d stop q
      sought_keyed = open_good D q w.going.keys l

      pub sought_next : SkipAsked stored starts d stop room m n q × (q < stop)
      sought_next = (record { keys = w.going.keys; some = h.some; held = h.held }, l)

      module _ (b : Bool) (x : Tells (Another (text_at (viewed stored starts d)) p t q) b) where
        pub sought_met : b ≡ true → Meets stored starts d stop p t true
        sought_met e = let y = tells_yes b e x in other_met D p t 0 q w.going l y.other y.same

        pub sought_on : b ≡ false → (r : ℕ) → Skipped stored starts d stop room m n (beyond (viewed stored starts d) q) r → Hunts stored starts d stop p t r
        sought_on e r s =
            let g = other_on D p t 0 q w.going l (λ f y. tells_no b e x (record { other = f; same = y })) (beyond (viewed stored starts d) q) refl in
            record { going = record { keys = s.keys; comes = comes_both D g.comes (s.pass p t h.ends) } }

      pub sought_less : (r : ℕ) → Skipped stored starts d stop room m n (beyond (viewed stored starts d) q) r → stop - r < stop - q
      sought_less r s = let o = open_less D q w.going.keys l (beyond (viewed stored starts d) q) refl in omega (arith, s.onward, walks_le D s.keys.walks)

pub ruleset soughts = (sought_asked, sought_first, sought_over, sought_keyed, sought_next, sought_met, sought_on, sought_less, rules)

-- ---- the text of the key at p

module _ (stored starts : List ℕ) (d stop p : ℕ) (k : Keyed stored starts d stop p) where
  pub among_field : Stands (viewed stored starts d) stop p
  among_field = k.key

  pub among_deep : d < 34
  among_deep = own_deep stored starts d stop p k

  pub among_few : p ≤ lent
  among_few = own_few stored starts d stop p k

  module _ (a : List ℕ) (h : Deeper starts d p a) (r : Size) (z : Sized (viewed stored starts d) p r) where
    pub among_content : Content stored a (d + 1) r.bytes
    among_content = own_content stored starts d stop p k r z a h

    module _ (m : ℕ) (l : m ≤ r.bytes) (o : m ≤ 64) where
      -- with its last bytes copied
      pub among_asks : Open (all_keys stored starts d stop) 0 → (room : List ℕ) → Tail (viewed stored a (d + 1)) (r.bytes - m) m room
          → Asks stored starts d stop (take r.bytes (viewed stored a (d + 1))) (take m room) (length (take m room)) r.bytes
      among_asks x room t =
          let f : m ≤ length room = omega (arith, t.long) in
          let e : length (take m room) ≡ m = length-take-le m room f in
          record {
            keys = x;
            some = omega arith;
            held = omega arith;
            ends = ends_last (take r.bytes (viewed stored a (d + 1))) room m r.bytes f (tail_ends stored a room (d + 1) m r.bytes among_content l o t);
          }

    pub among_told : (b : Bool) → Meets stored starts d stop p (take r.bytes (viewed stored a (d + 1))) b → OtherTold (all_keys stored starts d stop) 0 p b
    among_told b t = subst (λ (s : List ℕ). Meets stored starts d stop p s b) (own_text stored starts d stop p k r z a h) t

pub ruleset amongs = (among_field, among_deep, among_few, among_content, among_asks, among_told, rules)
