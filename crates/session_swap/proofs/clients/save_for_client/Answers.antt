use Rattle.std.proofs.Common.{◌∙◌, ◌∷◌, [], ℕ, arith, ap, drop, get_or, refl, set}
use Rattle.tab_spec.specs.Shape.{number_of_session}
use Rattle.std.proofs.lemmas.List.{length-map}
use Rattle.std.specs.Prelude.{Ok, Err}
use Rattle.std.proofs.lemmas.Result.{err_from_is_err_and}
use Rattle.tab_spec.specs.declared.TheConstants.{HEADER_BYTES}
use Rattle.tab_spec.specs.declared.contexts.TheConstants.{PROFILE_CONTEXTS}
use Rattle.device_spec.specs.ContextCommands.{context_save_command}
use Rattle.session_swap.specs.Records.{item_of_record, items_of}
use Rattle.session_swap.specs.Items.{item_at, saved_by_client}
use Rattle.session_swap.proofs.Among.{saved_inside}
use Rattle.session_swap.proofs.Handed.{IsHandedOut, IsLoadedUnder, asks_told, hands_of, items_handed, loaded_there, number_told, ready_handed, replies_told, room_to_hand, sessions_handed}
use Rattle.device_port.proofs.Sending.{asks_failed}
use Rattle.session_swap.proofs.Asking.{on_err_whole}
use Rattle.session_swap.proofs.Renewed.{can_number, freed, once_more}
use Rattle.session_swap.proofs.clients.save_for_client.Goals as goal

pub put_out-requires-clause-loaded : goal.put_out-requires-clause-loaded
put_out-requires-clause-loaded g c =
    let under : IsLoadedUnder (items_of c.args.records.now) c.args.handle c.number_of-number.result =
    record { number_is = c.number_of-number.ensures; loaded = c.requires.may.loaded } in
    loaded_there (items_of c.args.records.now) c.args.handle c.number_of-number.result under

pub put_out-requires-clause-may : goal.put_out-requires-clause-may
put_out-requires-clause-may g c =
    can_number _ c.args.records.now c.args.next.now c.requires.ready.1 c.requires.ready.2 c.requires.may.gap
    (omega (arith, c.requires.may.counter))

pub bounds-records-number : goal.bounds-records-number
bounds-records-number g c =
    let mid = c.put_out.new.records in
    omega (arith, saved_inside (items_of mid) c.number_of-number.result c.in_ok-put_out.ensures.ok.saves.saved_is, length-map mid item_of_record)

pub hand_out-requires : goal.hand_out-requires
hand_out-requires g c =
    let ready = c.put_out.ensures.ready c.requires.ready.0 c.requires.ready.1 c.requires.ready.2 in
    room_to_hand c.put_out.new.records c.number_of-number.result c.index-records-number.result ready.sound
    c.in_ok-put_out.ensures.ok.saves.saved_is

pub returns-in_err-put_out-clause-err : goal.returns-in_err-put_out-clause-err
returns-in_err-put_out-clause-err g c =
    on_err_whole c.from_residual.result _ (c.in_err-put_out.ensures.err.0.items_are, c.in_err-put_out.ensures.err.1)

pub returns-in_err-put_out-clause-asks : goal.returns-in_err-put_out-clause-asks
returns-in_err-put_out-clause-asks g c =
    let seen = g.D.Device.seen in
    let items = items_of c.args.records.now in
    let n = c.number_of-number.result in
    let under : IsLoadedUnder items c.args.handle n = record { number_is = c.number_of-number.ensures; loaded = c.requires.may.loaded } in
    asks_failed g.D.Device.CONTEXTS seen c.args.device.now c.put_out.new.device (context_save_command c.args.handle) _ c.from_residual.result
    (err_from_is_err_and c.from_residual.result c.from_residual.ensures.1)
    (asks_told seen c.args.device.now c.put_out.new.device (Err _) items c.args.handle n under c.in_err-put_out.ensures.asks)

pub returns-clause-ok : goal.returns-clause-ok
returns-clause-ok g c =
    let state = (g.D.Device.seen c.args.device.now).state in
    let items = items_of c.args.records.now in
    let mid = c.put_out.new.records in
    let n = c.number_of-number.result in
    let r = get_or mid n c.index-records-number.result in
    let bytes = drop HEADER_BYTES c.put_out.new.scratch in
    let left = c.in_ok-put_out.ensures in
    let out = left.ok in
    let ready = left.ready c.requires.ready.0 c.requires.ready.1 c.requires.ready.2 in
    let under : IsLoadedUnder items c.args.handle n = record { number_is = c.number_of-number.ensures; loaded = c.requires.may.loaded } in
    let handed : IsHandedOut r c.hand_out.new.self =
    record { same = c.hand_out.ensures.saved; handed = c.hand_out.ensures.handed; room = c.hand_out.ensures.room } in
    let hands = hands_of items mid c.args.handle n _ c.put_out.new.scratch c.put_out.new.next c.index-records-number.result
    c.hand_out.new.self under ready.sound out.saves.saved_is out.reply_is c.index-records-number.is handed in
    let items_are =
    items_handed items mid n bytes r c.hand_out.new.self hands
    ∙ ap (λ (n : ℕ). set items n (saved_by_client bytes (item_at items n))) c.number_of-number.ensures in
    let told = replies_told state items c.args.handle n c.put_out.new.scratch under out.told in (
      λ numbers. record {
        last_is = out.reply_is.last_is;
        frame = out.reply_is.frame;
        success = told.0;
        view_is = λ i. record {
          numbers = numbers;
          items = items_are i;
          next = out.reply_is.next_is i;
          order = [];
          saved = number_of_session c.args.handle ∷ [];
          left = [];
          contexts = PROFILE_CONTEXTS;
        };
      },
      record {
        context = told.1;
        number = number_told state items mid n bytes (loaded_there items c.args.handle n under) out.reply_is.items_are out.saves.number_is;
        exact = once_more state (g.D.Device.seen c.put_out.new.device).state items (items_of mid) n _ left.swaps.rest out.saves refl;
      },
    )

pub returns-clause-sessions : goal.returns-clause-sessions
returns-clause-sessions g c =
    let items = items_of c.args.records.now in
    let mid = c.put_out.new.records in
    let n = c.number_of-number.result in
    let r = get_or mid n c.index-records-number.result in
    let bytes = drop HEADER_BYTES c.put_out.new.scratch in
    let left = c.in_ok-put_out.ensures in
    let ready = left.ready c.requires.ready.0 c.requires.ready.1 c.requires.ready.2 in
    let under : IsLoadedUnder items c.args.handle n = record { number_is = c.number_of-number.ensures; loaded = c.requires.may.loaded } in
    let handed : IsHandedOut r c.hand_out.new.self =
    record { same = c.hand_out.ensures.saved; handed = c.hand_out.ensures.handed; room = c.hand_out.ensures.room } in
    let hands = hands_of items mid c.args.handle n _ c.put_out.new.scratch c.put_out.new.next c.index-records-number.result
    c.hand_out.new.self under ready.sound left.ok.saves.saved_is left.ok.reply_is c.index-records-number.is handed in
    sessions_handed (g.D.Device.seen c.put_out.new.device).state items mid n bytes r c.hand_out.new.self hands ∙ left.swaps.sessions.sessions

pub returns-clause-ready : goal.returns-clause-ready
returns-clause-ready g c numbers others start =
    let items = items_of c.args.records.now in
    let mid = c.put_out.new.records in
    let n = c.number_of-number.result in
    let r = get_or mid n c.index-records-number.result in
    let bytes = drop HEADER_BYTES c.put_out.new.scratch in
    let left = c.in_ok-put_out.ensures in
    let ready = left.ready numbers others start in
    let under : IsLoadedUnder items c.args.handle n = record { number_is = c.number_of-number.ensures; loaded = c.requires.may.loaded } in
    let handed : IsHandedOut r c.hand_out.new.self =
    record { same = c.hand_out.ensures.saved; handed = c.hand_out.ensures.handed; room = c.hand_out.ensures.room } in
    let hands = hands_of items mid c.args.handle n _ c.put_out.new.scratch c.put_out.new.next c.index-records-number.result
    c.hand_out.new.self under ready.sound left.ok.saves.saved_is left.ok.reply_is c.index-records-number.is handed in
    ready_handed numbers (g.D.Device.seen c.put_out.new.device).state items mid c.put_out.new.next n bytes r c.hand_out.new.self others hands
    ready.stand

pub returns-clause-keeps : goal.returns-clause-keeps
returns-clause-keeps g c =
    let swaps = c.in_ok-put_out.ensures.swaps in (
      record { base_is = swaps.base_is; rest = swaps.rest; rises = swaps.rises; count = swaps.count },
      (freed _ _ (items_of c.args.records.now) (items_of c.put_out.new.records) c.number_of-number.result swaps.rest swaps.gap
          c.requires.may.gap c.in_ok-put_out.ensures.ok.saves).room,
    )

pub returns-clause-asks : goal.returns-clause-asks
returns-clause-asks g c =
    let seen = g.D.Device.seen in
    let items = items_of c.args.records.now in
    let n = c.number_of-number.result in
    let under : IsLoadedUnder items c.args.handle n = record { number_is = c.number_of-number.ensures; loaded = c.requires.may.loaded } in
    asks_told seen c.args.device.now c.put_out.new.device (Ok tt) items c.args.handle n under c.in_ok-put_out.ensures.asks
