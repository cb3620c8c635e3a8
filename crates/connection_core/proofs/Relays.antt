-- Each move keeps the rule of a line.
use Rattle.std.proofs.Common.{◌≡◌, ◌≢◌, ◌<◌, ℕ, zero, suc, true, true≢false, List, [], ◌∷◌, ◌++◌, length, set, sym, refl, ap, ◌∙◌, subst, ⊎_elim, append_assoc, arith, length-append}
use mathlib.Core.Option.{some, some-ne-none}
use lib.ListN.{get_elem?}
use Rattle.atomic_table.proofs.Lists.{at_set, at_snoc}
use Rattle.crossbeam_channel.specs.Fifo.{Pushes, Pops, Forks, Merges, Learns}
use Rattle.tab_spec.specs.Count.{largest_count}
use Rattle.connection_core.specs.declared.message.Message.{Message}
use Rattle.connection_core.specs.Line.{FitsLine, HasTaken, IsInOrder, IsWholeLine, LineView, both_of, first_view, sending, spent_view, taking, with_sent, with_taken}

-- ---- a list of views, one of which changes

abbrev Each : (ℕ → LineView → Type 0) → List LineView → Type 0
Each F views = (place : ℕ) (v : LineView) → get_elem? views place ≡ some v → F place v

each_set : (F : ℕ → LineView → Type 0) (views : List LineView) (place : ℕ) (w : LineView) → F place w → ((j : ℕ) (u : LineView) → j ≢ place → get_elem? views j ≡ some u → F j u) → Each F (set views place w)
each_set F views place w mine others j u at = ⊎_elim (λ (x : (j ≡ place) × (w ≡ u)). subst (λ (y : ℕ × LineView). F y.0 y.1) (λ i. (sym x.0 i, x.1 i)) mine)
    (λ (x : (j ≢ place) × (get_elem? views j ≡ some u)). others j u x.0 x.1) (at_set views place j w u at)

-- a view that wasn't in the list is behind it
at_end : (views : List LineView) (a b : LineView) (j : ℕ) → get_elem? views j ≢ some b → get_elem? (views ++ a ∷ []) j ≡ some b → j ≡ length views
at_end [] a b zero none at = refl
at_end [] a b (suc j) none at = absurd (some-ne-none b (sym at))
at_end (x ∷ views) a b zero none at = absurd (none at)
at_end (x ∷ views) a b (suc j) none at = ap suc (at_end views a b j none at)

-- ---- the moves

begins_first : (F : ℕ → LineView → Type 0) → F 0 first_view → Each F (first_view ∷ [])
begins_first F first zero u at = subst (F 0) (some_same first_view u at) first
  where
    some_same : (a b : LineView) → some a ≡ some b → a ≡ b
    some_same a b e = cc
begins_first F first (suc j) u at = absurd (some-ne-none u (sym at))

pub begins_line : IsInOrder [] (first_view ∷ [])
begins_line = record {
  sender = 0;
  taker = 0;
  sent = [];
  taken = [];
  whole = refl;
  short = omega arith;
  each = begins_first (FitsLine 0 0 [] []) ((λ _. (refl, refl)), λ _. (refl, refl));
}

pub sends_line : (room place : ℕ) (v : LineView) (x : Message) → v.sends ≡ true → length v.sent < largest_count → Pushes IsInOrder room place v x (λ w. w ≡ with_sent v x)
sends_line room place v x may few items views _ h at = let w = with_sent v x in let mine = h.each place v at in let sent = h.sent ++ x ∷ [] in (
  w,
  record {
    sender = h.sender;
    taker = h.taker;
    sent = sent;
    taken = h.taken;
    whole = ap (λ (l : List Message). l ++ x ∷ []) h.whole ∙ append_assoc h.taken items (x ∷ []);
    short = omega (arith, few, ap length (mine.0 may).1, length-append h.sent (x ∷ []));
    each = each_set (FitsLine h.sender h.taker sent h.taken) views place w ((λ _. ((mine.0 may).0, ap (λ (l : List Message). l ++ x ∷ []) (mine.0 may).1)), mine.1)
        (λ j u other there. ((λ p. absurd (other (((h.each j u there).0 p).0 ∙ sym (mine.0 may).0))), (h.each j u there).1));
  },
  refl,
)

pub takes_line : (place : ℕ) (v : LineView) → v.takes ≡ true → Pops IsInOrder place v (HasTaken v)
takes_line place v may x items views h at = let w = with_taken v x in let mine = h.each place v at in let taken = h.taken ++ x ∷ [] in (
  w,
  record {
    sender = h.sender;
    taker = h.taker;
    sent = h.sent;
    taken = taken;
    whole = h.whole ∙ sym (append_assoc h.taken (x ∷ []) items);
    short = h.short;
    each = each_set (FitsLine h.sender h.taker h.sent taken) views place w (mine.0, λ _. ((mine.1 may).0, ap (λ (l : List Message). l ++ x ∷ []) (mine.1 may).1))
        (λ j u other there. ((h.each j u there).0, λ p. absurd (other (((h.each j u there).1 p).0 ∙ sym (mine.1 may).0))));
  },
  (refl, omega (arith, h.short, ap length h.whole, length-append h.taken (x ∷ items), length-append v.taken (x ∷ []), ap length (mine.1 may).1)),
)

pub splits_line : (place : ℕ) (v : LineView) → v.sends ≡ true → v.takes ≡ true → Forks IsInOrder place v (sending v.sent) (taking v.taken)
splits_line place v a b items views h at = let l = sending v.sent in let r = taking v.taken in let mine = h.each place v at in let vs : List LineView = set views place l in
    let Old : ℕ → LineView → Type 0 = λ j u. (u.sends ≡ true → (j ≡ h.sender) × (u.sent ≡ h.sent)) × (u.takes ≢ true) in
    let old : Each Old vs = each_set Old views place l ((λ _. mine.0 a), λ p. true≢false (sym p)) (λ j u other there. ((h.each j u there).0, λ p. other (((h.each j u there).1 p).0 ∙ sym (mine.1 b).0))) in
    record {
      sender = h.sender;
      taker = length vs;
      sent = h.sent;
      taken = h.taken;
      whole = h.whole;
      short = h.short;
      each = λ j u there. ⊎_elim (λ x. ((old j u x).0, λ p. absurd ((old j u x).1 p)))
          (λ (is : r ≡ u). ((λ p. absurd (true≢false (sym (ap (λ (y : LineView). y.sends) is ∙ p)))), λ p. (at_end vs r u j (λ x. (old j u x).1 p) there, ap (λ (y : LineView). y.taken) (sym is) ∙ (mine.1 b).1)))
          (at_snoc vs r u j there);
    }

pub joins_line : (place : ℕ) (v : LineView) (other : ℕ) (u : LineView) → v.sends ≡ true → u.takes ≡ true → Merges IsInOrder place v other u (both_of v u) spent_view
joins_line place v other u a b items views h at two given = let both = both_of v u in let mine = h.each place v at in let vs : List LineView = set views place both in
    let was : get_elem? views other ≡ some u = ⊎_elim (λ x. absurd (two x.0)) (λ x. x.1) (at_set views place other both u given) in let theirs = (h.each other u was).1 b in
    let Now : ℕ → LineView → Type 0 =
    λ j y. j ≢ other → FitsLine h.sender place h.sent h.taken j y in
    let now : Each Now vs = each_set Now views place both (λ _. ((λ _. mine.0 a), λ _. (refl, theirs.1))) (λ j y _ there apart. ((h.each j y there).0, λ p. absurd (apart (((h.each j y there).1 p).0 ∙ sym theirs.0)))) in
    record {
      sender = h.sender;
      taker = place;
      sent = h.sent;
      taken = h.taken;
      whole = h.whole;
      short = h.short;
      each = each_set (FitsLine h.sender place h.sent h.taken) vs other spent_view ((λ p. absurd (true≢false (sym p))), λ p. absurd (true≢false (sym p))) (λ j y apart there. now j y there apart);
    }

pub wholes_line : (place : ℕ) (v : LineView) → v.sends ≡ true → v.takes ≡ true → Learns IsInOrder place v (IsWholeLine v)
wholes_line place v a b items views h at = let mine = h.each place v at in (mine.0 a).1 ∙ h.whole ∙ ap (λ (l : List Message). l ++ items) (sym (mine.1 b).1)
