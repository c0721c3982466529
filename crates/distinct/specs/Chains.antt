-- KEYS IN CHAINS: what is asked of the functions that walk and fill them, what they tell, and the laws that `search` takes. Assumes nothing.
use Rattle.std.specs.Prelude.{◌≡◌, refl, List, ◌∷◌, Bool, true, false, length, set, Option, Some, None, is_some, Result, Ok, Err, IsErr}
use Rattle.std.proofs.Common.{sym, ◌∙◌, rules}
use Rattle.std.proofs.Math.Path.{ap, subst}
use Prim.Native.Nat.{ℕ, suc, ◌+◌, ◌*◌, ◌-◌, ◌/◌, ◌%◌, ◌≤◌, ◌<◌}
use Rattle.std.proofs.Math.Nat.{mod-lt}
use native.Mathlib.Omega.{arith}
use Rattle.std.proofs.Math.ListN.{get_or}
use Rattle.std.proofs.Math.Seq.{slice, slice-cons, slice_empty}
use Rattle.exact.specs.Tells.{Tells, tells_yes}
use Rattle.repeats.specs.declared.TooLong.{TooLong}
use Rattle.repeats.specs.Numbering.{Numbering, stir, spread, chain_of, chain_at}
use Rattle.repeats.specs.Links.{Chains, Noting, chains_walkable, within_met, note_low, note_chains, walk_none}
use Rattle.repeats.specs.Links
use Rattle.repeats.specs.Walk.{Walking, chain_first, chain_before, chain_room, chain_less, chain_more}
use Rattle.distinct.specs.Names.{Part, spelt, text_keys, Held, held_first, Numbered, held_number, Sits, sits_at, Twice, twice_none, twice_more}

-- ---- the chain of a text

-- h is that of the bytes before i
pub record Stirring (text : List ℕ) (a e i h : ℕ) : Type 0 where
  pub within : i ≤ e
  pub is : stir h (slice i e text) ≡ stir 0 (slice a e text)
  pub low : h < 4294967296

module _ (text : List ℕ) (a e : ℕ) (p : Part text a e) where
  pub stirring_first : Stirring text a e a 0
  stirring_first = record { within = p.order; is = refl; low = omega arith }

  module _ (i h : ℕ) (x : Stirring text a e i h) where
    pub stirring_inside : i < e → i < length text
    stirring_inside l = omega (arith, p.fits)

    pub stirring_more : (g : ℕ) → i < e → g ≡ (31 * h + get_or text i 0) % 4294967296 → Stirring text a e (i + 1) g
    unfolding stir
    stirring_more g l z =
        let s : suc i ≡ i + 1 = omega arith in
        let c : slice i e text ≡ get_or text i 0 ∷ slice (i + 1) e text = slice-cons i e text 0 l p.fits ∙ ap (λ (j : ℕ). get_or text i 0 ∷ slice j e text) s in
        rw z (record { within = omega arith; is = rw c at x.is; low = mod-lt (31 * h + get_or text i 0) (omega arith) })

    pub stirring_low : h < 4294967296
    stirring_low = x.low

    pub stirring_done : e ≤ i → h ≡ stir 0 (slice a e text)
    unfolding stir
    stirring_done l = let z : i ≡ e = omega (arith, x.within) in rw (z, slice_empty e text) at x.is

pub ruleset stirs = (stirring_first, stirring_inside, stirring_more, stirring_low, stirring_done, rules)

pub chain_told : (text : List ℕ) (a e h c : ℕ) → h ≡ stir 0 (slice a e text) → c ≡ spread h → c ≡ chain_of 0 (slice a e text)
unfolding chain_of
chain_told text a e h c u v = v ∙ rw u refl

-- ---- what a look tells

-- of the first n keys, one for which P holds; or that none is, as Q says it
unfoldable pub Told : (ℕ → Type 0) → ℕ → Type 0 → Result (Option ℕ) TooLong → Type 0
Told P n Q (Ok (Some k)) = (k < n) × P k
Told P n Q (Ok None) = Q → ⊥
Told P n Q (Err e) = Unit {0}

pub told_long : (P : ℕ → Type 0) (n : ℕ) (Q : Type 0) (e : TooLong) → Told P n Q (Err e)
unfolding Told
told_long P n Q e = tt

pub told_from : (P : ℕ → Type 0) (n : ℕ) {A B : Type 0} → (B → A) → (r : Result (Option ℕ) TooLong) → Told P n A r → Told P n B r
unfolding Told
told_from P n f (Ok (Some k)) x = x
told_from P n f (Ok None) x = λ y. x (f y)
told_from P n f (Err e) x = tt

module _ (P : ℕ → Type 0) (n : ℕ) (Q : Type 0) (r : Result (Option ℕ) TooLong) (x : Told P n Q r) where
  pub told_low : (k : ℕ) → r ≡ Ok (Some k) → k < n
  unfolding Told
  told_low k e = let y : Told P n Q (Ok (Some k)) = rw e at x in y.0

  pub told_at : (k : ℕ) → r ≡ Ok (Some k) → P k
  unfolding Told
  told_at k e = let y : Told P n Q (Ok (Some k)) = rw e at x in y.1

  pub told_none : r ≡ Ok None → Q → ⊥
  unfolding Told
  told_none e = rw e at x

-- whether one is told of
pub some_of : (o : Option ℕ) (b : Bool) → b ≡ is_some o → b ≡ true → (k : ℕ) × (o ≡ Some k)
some_of (Some k) b e f = (k, refl)
some_of None b e f = absurd (cc)

pub none_of : (o : Option ℕ) (b : Bool) → b ≡ is_some o → b ≡ false → o ≡ None
none_of (Some k) b e f = absurd (cc)
none_of None b e f = refl

-- ---- a look through a chain

-- n keys stand in chains, and the bytes from b to f of some words are sought from `head` on
pub record Walkable (text froms tos links words : List ℕ) (b f head n : ℕ) : Type 0 where
  pub held : Held text froms tos n
  pub walk : Links.Walkable (text_keys text froms tos) links head n
  pub sought : Part words b f

-- what a look for the text s tells
abbrev pub Looked : List ℕ → List ℕ → List ℕ → List ℕ → List ℕ → ℕ → ℕ → Result (Option ℕ) TooLong → Type 0
Looked text froms tos links s head n r = Told (λ k. s ≡ spelt text froms tos k) n (Links.Met (λ k. s ≡ spelt text froms tos k) links head) r

-- the look has come to h
abbrev pub Looking : List ℕ → List ℕ → List ℕ → List ℕ → List ℕ → ℕ → ℕ → ℕ → ℕ → Type 0
Looking text froms tos links s head n h steps = Walking (text_keys text froms tos) (λ k. s ≡ spelt text froms tos k) links head n h steps

module _ (text froms tos links words : List ℕ) (b f head n : ℕ) (w : Walkable text froms tos links words b f head n) where
  abbrev N : Numbering
  N = text_keys text froms tos

  abbrev s : List ℕ
  s = slice b f words

  abbrev P : ℕ → Type 0
  P k = s ≡ spelt text froms tos k

  pub look_first : Looking text froms tos links s head n head 0
  look_first = chain_first N P links head n w.walk

  pub look_long : (e : TooLong) → Looked text froms tos links s head n (Err e)
  look_long e = told_long P n (Links.Met P links head) e

  pub look_sought : Part words b f
  look_sought = w.sought

  module _ (h steps : ℕ) (x : Looking text froms tos links s head n h steps) where
    pub look_none : h ≤ 0 → Looked text froms tos links s head n (Ok None)
    unfolding Told
    look_none l = walk_none N P links head n w.walk h x.walked l

    module _ (l : 0 < h) (k : ℕ) (e : k ≡ h - 1) where
      low : k < n
      low = chain_before N P links head n w.walk h steps x l k e

      pub look_number : Numbered text froms tos k
      look_number = held_number k w.held low

      pub look_room : k < length links
      look_room = chain_room N P links head n w.walk h steps x l k e

      pub look_less : (g : ℕ) → g ≡ get_or links k 0 → g < h
      look_less g z = chain_less N P links head n w.walk h steps x l k e g z

      module _ (q : Bool) (t : Tells (slice b f words ≡ spelt text froms tos k) q) where
        pub look_met : q ≡ true → Looked text froms tos links s head n (Ok (Some k))
        unfolding Told
        look_met g = (low, tells_yes q g t)

        pub look_more : (g : ℕ) → g ≡ get_or links k 0 → q ≡ false → (steps ≡ 16 → ⊥) → Looking text froms tos links s head n g (steps + 1)
        look_more g z u o = chain_more N P links head n w.walk h steps x l k e g q z u t o

pub ruleset looking = (look_first, look_long, look_sought, look_none, look_number, look_room, look_less, look_met, look_more, rules)

-- ---- a text is sought among the chains of n

pub record InChains (text froms tos heads links : List ℕ) (n : ℕ) : Type 0 where
  pub held : Held text froms tos n
  pub room : n ≤ length links
  pub chains : Chains (text_keys text froms tos) heads links n

-- what is told of the text s
abbrev pub SitsTold : List ℕ → List ℕ → List ℕ → ℕ → List ℕ → Result (Option ℕ) TooLong → Type 0
SitsTold text froms tos n s r = Told (λ k. s ≡ spelt text froms tos k) n (Sits text froms tos s n) r

sits_told : (text froms tos heads links s : List ℕ) (n c : ℕ) → Chains (text_keys text froms tos) heads links n → c ≡ chain_of 0 s
    → (r : Result (Option ℕ) TooLong) → Looked text froms tos links s (get_or heads c 0) n r → SitsTold text froms tos n s r
sits_told text froms tos heads links s n c x e r t =
    told_from (λ k. s ≡ spelt text froms tos k) n (within_met (text_keys text froms tos) (λ k. s ≡ spelt text froms tos k) heads links n x c (λ k f. e ∙ ap (chain_of 0) f)) r t

module _ (text froms tos heads links words : List ℕ) (b f n : ℕ) (w : InChains text froms tos heads links n) (y : Part words b f) where
  module _ (c : ℕ) (e : c ≡ chain_of 0 (slice b f words)) where
    pub seek_low : c < length heads
    unfolding chain_of
    seek_low =
        let h = stir 0 (slice b f words) in
        let z : (h + h / 1048576) % 4096 < 4096 = mod-lt (h + h / 1048576) (omega arith) in
        omega (arith, w.chains.many)

    module _ (head : ℕ) (g : head ≡ get_or heads c 0) where
      pub seek_walkable : Walkable text froms tos links words b f head n
      seek_walkable = rw g (record { held = w.held; walk = chains_walkable (text_keys text froms tos) (λ k. Unit {0}) heads links n w.chains c w.room; sought = y })

      pub seek_told : (r : Result (Option ℕ) TooLong) → Looked text froms tos links (slice b f words) head n r → SitsTold text froms tos n (slice b f words) r
      seek_told r t = sits_told text froms tos heads links (slice b f words) n c w.chains e r (rw g at t)

pub ruleset seeks = (seek_low, seek_walkable, seek_told, rules)

-- ---- a key takes its place in its chain

pub record Chaining (text froms tos heads links : List ℕ) (n i : ℕ) : Type 0 where
  pub held : Held text froms tos n
  pub low : i < n
  pub noting : Noting (text_keys text froms tos) heads links i

pub record Chained (text froms tos heads links : List ℕ) (i : ℕ) (r : Result (Option ℕ) TooLong) : Type 0 where
  pub chains : Chains (text_keys text froms tos) heads links (i + 1)
  pub tells : SitsTold text froms tos i (spelt text froms tos i) r

module _ (text froms tos heads links : List ℕ) (n i : ℕ) (w : Chaining text froms tos heads links n i) where
  pub chained_from : i < length froms
  chained_from = omega (arith, w.held.from_room, w.low)

  pub chained_to : i < length tos
  chained_to = omega (arith, w.held.to_room, w.low)

  pub chained_few : i < 8192
  chained_few = omega (arith, w.held.few, w.low)

  pub chained_links : i < length links
  chained_links = w.noting.room

  module _ (a e : ℕ) (u : a ≡ get_or froms i 0) (v : e ≡ get_or tos i 0) where
    pub chained_part : Part text a e
    chained_part = rw (u, v) (w.held.part i w.low)

    module _ (c : ℕ) (f : c ≡ chain_of 0 (slice a e text)) where
      chain_is : c ≡ chain_at (text_keys text froms tos) i
      chain_is = rw (u, v) at f

      pub chained_head : c < length heads
      chained_head = note_low (text_keys text froms tos) heads links i w.noting c chain_is

      module _ (head : ℕ) (g : head ≡ get_or heads c 0) where
        pub chained_walk : Walkable text froms tos links text a e head i
        chained_walk =
            rw g
            (record {
              held = held_first i w.held (omega (arith, w.low));
              walk = chains_walkable (text_keys text froms tos) (λ k. Unit {0}) heads links i w.noting.chains c (omega (arith, w.noting.room));
              sought = chained_part;
            })

        pub chained_tells : (r : Result (Option ℕ) TooLong) → Looked text froms tos links (slice a e text) head i r → Chained text froms tos (set heads c (i + 1)) (set links i (get_or heads c 0)) i r
        chained_tells r t =
            record {
              chains = note_chains (text_keys text froms tos) heads links i w.noting c chain_is;
              tells = sits_told text froms tos heads links (spelt text froms tos i) i c w.noting.chains chain_is r (rw (u, v, g) at t);
            }

pub ruleset chaining = (chained_from, chained_to, chained_few, chained_links, chained_part, chained_head, chained_walk, chained_tells, rules)

-- ---- all keys

pub record Starting (text froms tos heads links : List ℕ) (n : ℕ) : Type 0 where
  pub held : Held text froms tos n
  pub room : n ≤ length links
  pub chains : Chains (text_keys text froms tos) heads links 0

-- one has the text of an earlier one; or none has, and all stand in the chains
unfoldable pub Linked : List ℕ → List ℕ → List ℕ → List ℕ → List ℕ → ℕ → Result Bool TooLong → Type 0
Linked text froms tos heads links n (Ok true) = Twice text froms tos n
Linked text froms tos heads links n (Ok false) = (Twice text froms tos n → ⊥) × Chains (text_keys text froms tos) heads links n
Linked text froms tos heads links n (Err e) = Unit {0}

module _ (text froms tos heads links : List ℕ) (n : ℕ) (w : Result Bool TooLong) (t : Linked text froms tos heads links n w) where
  pub linked_twice : w ≡ Ok true → Twice text froms tos n
  unfolding Linked
  linked_twice e = rw e at t

  pub linked_once : w ≡ Ok false → Twice text froms tos n → ⊥
  unfolding Linked
  linked_once e = let z : Linked text froms tos heads links n (Ok false) = rw e at t in z.0

  pub linked_chains : w ≡ Ok false → Chains (text_keys text froms tos) heads links n
  unfolding Linked
  linked_chains e = let z : Linked text froms tos heads links n (Ok false) = rw e at t in z.1

  pub linked_in : (h l : List ℕ) → Starting text froms tos h l n → length links ≡ length l → w ≡ Ok false → InChains text froms tos heads links n
  linked_in h l s g e = record { held = s.held; room = omega (arith, s.room); chains = linked_chains e }

pub record Passed (text froms tos heads links : List ℕ) (n i : ℕ) : Type 0 where
  pub within : i ≤ n
  pub held : Held text froms tos n
  pub room : n ≤ length links
  pub chains : Chains (text_keys text froms tos) heads links i
  pub none : Twice text froms tos i → ⊥

module _ (text froms tos : List ℕ) (n : ℕ) where
  pub passed_first : (heads links : List ℕ) → Starting text froms tos heads links n → Passed text froms tos heads links n 0
  passed_first heads links w = record { within = omega arith; held = w.held; room = w.room; chains = w.chains; none = twice_none text froms tos }

  pub passed_long : (heads links : List ℕ) (r : Result Bool TooLong) → IsErr r → Linked text froms tos heads links n r
  unfolding Linked
  passed_long heads links (Err e) x = tt
  passed_long heads links (Ok b) x = absurd (cc)

  module _ (heads links : List ℕ) (i : ℕ) (x : Passed text froms tos heads links n i) where
    pub passed_chaining : i < n → Chaining text froms tos heads links n i
    passed_chaining l = record { held = x.held; low = l; noting = record { room = omega (arith, x.room); chains = x.chains; key = tt } }

    pub passed_few : i < n → i < 8192
    passed_few l = omega (arith, x.held.few)

    pub passed_done : n ≤ i → Linked text froms tos heads links n (Ok false)
    unfolding Linked
    passed_done l = let e : i ≡ n = omega (arith, x.within) in subst (λ (j : ℕ). (Twice text froms tos j → ⊥) × Chains (text_keys text froms tos) heads links j) e (x.none, x.chains)

    module _ (heads' links' : List ℕ) (r : Result (Option ℕ) TooLong) (y : Chained text froms tos heads' links' i r) (l : i < n) where
      pub passed_met : (k : ℕ) → r ≡ Ok (Some k) → Linked text froms tos heads' links' n (Ok true)
      unfolding Linked
      passed_met k e =
          record {
            number = i;
            low = l;
            earlier =
                sits_at text froms tos k
                (told_low (λ j. spelt text froms tos i ≡ spelt text froms tos j) i (Sits text froms tos (spelt text froms tos i) i) r y.tells k e)
                (told_at (λ j. spelt text froms tos i ≡ spelt text froms tos j) i (Sits text froms tos (spelt text froms tos i) i) r y.tells k e);
          }

      pub passed_more : r ≡ Ok None → length links' ≡ length links → Passed text froms tos heads' links' n (i + 1)
      passed_more e g =
          record {
            within = omega arith;
            held = x.held;
            room = omega (arith, x.room);
            chains = y.chains;
            none = twice_more text froms tos x.none (told_none (λ j. spelt text froms tos i ≡ spelt text froms tos j) i (Sits text froms tos (spelt text froms tos i) i) r y.tells e);
          }

    module _ (heads' links' : List ℕ) (o : Option ℕ) (y : Chained text froms tos heads' links' i (Ok o)) (l : i < n) (b : Bool) (f : b ≡ is_some o) where
      pub passed_some : b ≡ true → Linked text froms tos heads' links' n (Ok true)
      passed_some g = let z = some_of o b f g in passed_met heads' links' (Ok o) y l z.0 (ap Ok z.1)

      pub passed_none : b ≡ false → length links' ≡ length links → Passed text froms tos heads' links' n (i + 1)
      passed_none g = passed_more heads' links' (Ok o) y l (ap Ok (none_of o b f g))

pub ruleset passing = (passed_first, passed_long, passed_chaining, passed_few, passed_done, passed_some, passed_none, rules)
