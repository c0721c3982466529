-- EXTENTS as code finds them in a view. Assumes nothing.
use Rattle.std.specs.Prelude.{◌≡◌, List, ℕ, ◌+◌, ◌-◌, ◌≤◌, ◌<◌, length, get_or}
use Rattle.std.proofs.Common.{sym, subst, ◌∙◌, arith}
use Rattle.language.specs.Lent.{lent}
use Rattle.std.specs.declared.option.Option.{Option}
use Rattle.std.specs.declared.option.Option.TheVariants.{None}
use Rattle.views.specs.declared.parts.Span.{Span}
use Rattle.views.specs.Views.{viewed, view_less, ByteAsked}
use Rattle.views.specs.Extents.{Headed, Passed, passed_none, passed_more, Told, Ended, ended_told, none_over, none_long, none_part}

module _ (stored starts : List ℕ) (d : ℕ) where
  abbrev view : List ℕ
  view = viewed stored starts d

  -- ASKED: a place of a content, and one where it is to end; a head
  pub record Lies (at stop : ℕ) : Type 0 where
    pub low : d ≤ 34
    pub few : length stored ≤ lent
    pub order : at ≤ stop
    pub inside_view : stop ≤ length view

  pub record HeadAsked (at : ℕ) : Type 0 where
    pub low : d ≤ 34
    pub few : length stored ≤ lent
    pub inside_view : at + 3 ≤ length view
    pub small : at ≤ lent

  module _ {at : ℕ} (h : HeadAsked at) where
    pub head_high : {i : ℕ} → i ≡ at + 1 → ByteAsked stored starts d i
    head_high e = record { low = h.low; few = h.few; inside_view = omega (arith, h.inside_view) }

    pub head_low : {i : ℕ} → i ≡ at + 2 → ByteAsked stored starts d i
    head_low e = record { low = h.low; few = h.few; inside_view = omega (arith, h.inside_view) }

  -- ---- the loop over parts

  pub record Going (at stop p n : ℕ) : Type 0 where
    pub lies : Lies at stop
    pub passed : Passed view at p n
    pub below : p ≤ stop
    pub small : stop ≤ lent
    pub bytes : n ≤ p

  pub going_start : {at stop : ℕ} → Lies at stop → Going at stop at 0
  going_start h = record { lies = h; passed = passed_none view _; below = h.order; small = let l = view_less stored starts d in omega (arith, h.few, h.inside_view); bytes = omega arith }

  module _ {at stop p n : ℕ} (w : Going at stop p n) where
    pub going_over : stop < p + 3 → Told view at stop None
    going_over l = none_over view w.passed l

    module _ (l : p + 3 ≤ stop) where
      pub going_head : HeadAsked p
      going_head = record { low = w.lies.low; few = w.lies.few; inside_view = omega (arith, w.lies.inside_view); small = omega (arith, w.small) }

      pub going_tag : ByteAsked stored starts d p
      going_tag = record { low = w.lies.low; few = w.lies.few; inside_view = omega (arith, w.lies.inside_view) }

      module _ {m : ℕ} (h : Headed view p m) where
        pub going_long : stop - (p + 3) < m → Told view at stop None
        going_long i = none_long view w.passed h i l

        module _ (i : m ≤ stop - (p + 3)) where
          pub going_sum : n + m ≤ lent
          going_sum = omega (arith, w.bytes, w.small)

          module _ {tag : ℕ} (e : tag ≡ get_or view p 0) where
            pub going_ended : {end : ℕ} (q : Option Span) → (tag ≡ 11 → ⊥) → end ≡ p + 3 + m → Ended tag n m end q → Told view at stop q
            going_ended {end} q f z y = ended_told view at p n stop m tag end q w.passed h e f l i w.lies.inside_view z y

            pub going_part : tag ≡ 11 → (m ≡ 65535 → ⊥) → Told view at stop None
            going_part f g = none_part view w.passed h (sym e ∙ f) g

            pub going_more : {q k : ℕ} → tag ≡ 11 → m ≡ 65535 → q ≡ p + 65538 → k ≡ n + 65535 → Going at stop q k
            going_more {q} {k} f g z y =
                let x = passed_more view w.passed h (sym e ∙ f) g (omega (arith, w.lies.inside_view)) in
                record {
                  lies = w.lies;
                  passed = subst (λ r. Passed view at r k) (sym z) (subst (λ r. Passed view at (p + 65538) r) (sym y) x);
                  below = omega arith;
                  small = w.small;
                  bytes = omega (arith, w.bytes);
                }

pub ruleset heading = (head_high, head_low)

pub ruleset going = (going_start, going_over, going_head, going_tag, going_long, going_sum, going_ended, going_part, going_more)
