-- In which order sessions were used and saved, after one of them goes to another list.
use Rattle.std.proofs.Common.{◌≡◌, ◌+◌, ◌-◌, ◌≤◌, ℕ, false, ltb, List, [], ◌∷◌, ◌++◌, length, ap, refl, ◌∙◌, arith}
use Rattle.std.specs.Prelude.{◌==◌}
use Rattle.std.specs.List.{count_by}
use Rattle.tab_spec.specs.declared.TheConstants.{SESSION_NUMBERS}
use Rattle.device_port.specs.Use.{used_after, without_one}
use Rattle.session_swap.specs.Records.{AreOrdered, HasFirst, names_in, order_in, order_of, order_out, order_used}
use Rattle.session_swap.proofs.Counts.{flag_most}
use Rattle.session_swap.proofs.Threads.{Entry, in_each, length_used, length_without}
use Rattle.session_swap.proofs.Uses.{without_absent}

-- a number went to the back of a list
pub record Carried (lists new : List (List Entry)) (number list : ℕ) : Type 0 where
  pub all : HasFirst SESSION_NUMBERS new
  pub back : names_in new list ≡ used_after (names_in lists list) number
  pub others : (other : ℕ) → (other == list) ≡ false → names_in new other ≡ without_one number (names_in lists other)

module _ (lists new : List (List Entry)) (number loaded saved : ℕ) (held : AreOrdered lists loaded saved) where
  loaded_most : count_by (λ one. one == number) (order_of lists).loaded + count_by (λ one. one == number) (order_of lists).saved ≤ 1
  loaded_most = omega (arith, in_each lists number held.all, flag_most (ltb number SESSION_NUMBERS))

  -- it is saved
  pub out_ordered : Carried lists new number 2 → count_by (λ one. one == number) (order_of lists).loaded ≡ 1
      → AreOrdered new (loaded - 1) (saved + 1)
  out_ordered carried one = record {
    all = carried.all;
    loaded_is = omega (
      arith,
      one,
      held.loaded_is,
      ap length (carried.others 1 refl),
      length_without number (names_in lists 1) (omega (arith, loaded_most)),
    );
    saved_is = omega (
      arith,
      one,
      loaded_most,
      held.saved_is,
      ap length carried.back,
      length_used number (names_in lists 2) (omega (arith, loaded_most)),
    );
  }

  pub out_order : Carried lists new number 2 → count_by (λ one. one == number) (order_of lists).loaded ≡ 1
      → order_of new ≡ order_out number (order_of lists)
  out_order carried one =
      let loaded_is = carried.others 1 refl in
      let saved_is =
      carried.back ∙ ap (λ (l : List ℕ). l ++ number ∷ []) (without_absent number (names_in lists 2) (omega (arith, one, loaded_most))) in
      λ i. record { loaded = loaded_is i; saved = saved_is i }

  -- it is loaded
  pub in_ordered : Carried lists new number 1 → count_by (λ one. one == number) (order_of lists).saved ≡ 1
      → AreOrdered new (loaded + 1) (saved - 1)
  in_ordered carried one = record {
    all = carried.all;
    loaded_is = omega (
      arith,
      one,
      loaded_most,
      held.loaded_is,
      ap length carried.back,
      length_used number (names_in lists 1) (omega (arith, loaded_most)),
    );
    saved_is = omega (
      arith,
      one,
      held.saved_is,
      ap length (carried.others 2 refl),
      length_without number (names_in lists 2) (omega (arith, loaded_most)),
    );
  }

  pub in_order : Carried lists new number 1 → order_of new ≡ order_in number (order_of lists)
  in_order carried =
      let saved_is = carried.others 2 refl in
      λ i. record { loaded = carried.back i; saved = saved_is i }

  -- it starts
  pub start_ordered : Carried lists new number 1 → count_by (λ one. one == number) (order_of lists).loaded ≡ 0
      → count_by (λ one. one == number) (order_of lists).saved ≡ 0 → AreOrdered new (loaded + 1) saved
  start_ordered carried none neither = record {
    all = carried.all;
    loaded_is = omega (
      arith,
      none,
      held.loaded_is,
      ap length carried.back,
      length_used number (names_in lists 1) (omega (arith, loaded_most)),
    );
    saved_is = omega (
      arith,
      neither,
      held.saved_is,
      ap length (carried.others 2 refl),
      length_without number (names_in lists 2) (omega (arith, loaded_most)),
    );
  }

  -- it is used
  pub used_ordered : Carried lists new number 1 → count_by (λ one. one == number) (order_of lists).loaded ≡ 1 → AreOrdered new loaded saved
  used_ordered carried one = record {
    all = carried.all;
    loaded_is = omega (
      arith,
      one,
      held.loaded_is,
      ap length carried.back,
      length_used number (names_in lists 1) (omega (arith, loaded_most)),
    );
    saved_is = omega (
      arith,
      one,
      loaded_most,
      held.saved_is,
      ap length (carried.others 2 refl),
      length_without number (names_in lists 2) (omega (arith, loaded_most)),
    );
  }

  pub used_order : Carried lists new number 1 → count_by (λ one. one == number) (order_of lists).loaded ≡ 1
      → order_of new ≡ order_used number (order_of lists)
  used_order carried one =
      let saved_is = carried.others 2 refl ∙ without_absent number (names_in lists 2) (omega (arith, one, loaded_most)) in
      λ i. record { loaded = carried.back i; saved = saved_is i }

  -- it is gone
  pub end_ordered : Carried lists new number 0 → AreOrdered new (loaded - count_by (λ one. one == number) (order_of lists).loaded)
      (saved - count_by (λ one. one == number) (order_of lists).saved)
  end_ordered carried = record {
    all = carried.all;
    loaded_is = omega (
      arith,
      held.loaded_is,
      ap length (carried.others 1 refl),
      length_without number (names_in lists 1) (omega (arith, loaded_most)),
    );
    saved_is = omega (
      arith,
      held.saved_is,
      ap length (carried.others 2 refl),
      length_without number (names_in lists 2) (omega (arith, loaded_most)),
    );
  }
