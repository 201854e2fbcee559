-- What the threads of a run share may cross to another thread.
use denote.RattleType.{RattleType}
use denote.Param.Send.{IsSend, IsSync, view_send, recorded_send, recorded_sync, struct_send, struct_sync, enum_send, sendable}
use denote.Struct.Declared.{shape}
use denote.Enum.Declared as enum
use Rattle.std.proofs.Crossing.{crosses}
use Rattle.std.proofs.sync.ledger.Book.TheSendSync as ledger
use Rattle.std.specs.contracts.sync.Mutex as Mutex
use Rattle.book.proofs.slots.Slots.TheSendSync.{the_field_send as slots_send}
use Rattle.book.specs.contracts.book_model.Book as Book
use Rattle.book.specs.contracts.book_model.Book.TheInside as book
use Rattle.book.specs.contracts.lease.Lease as Lease
use Rattle.book.specs.contracts.lease.Lease.TheInside as lease
use Rattle.channel_core.proofs.channel.Channel.TheSendSync.{the_send as channel_send}
use Rattle.channel_core.proofs.outcome.Woken.TheSendSync.{the_send as woken_send}
use Rattle.channel_core.specs.contracts.channels.Channels as Channels
use Rattle.channel_core.specs.contracts.channels.Channels.TheInside as channels
use Rattle.channel_core.specs.contracts.order.Order as Order
use Rattle.channel_core.specs.contracts.order.Order.TheInside as order
use Rattle.channel_core.specs.contracts.sleepers.Sleeper as Sleeper
use Rattle.channel_core.specs.contracts.sleepers.Sleeper.TheInside as sleeper
use Rattle.channel_core.specs.contracts.sleepers.Sleepers as Sleepers
use Rattle.channel_core.specs.contracts.sleepers.Sleepers.TheInside as sleepers
use Rattle.clock_table.proofs.table.LeaseSeat.TheSendSync.{the_field_send as seat_send}
use Rattle.goroutine_vm.proofs.sleeping.Room.TheSendSync.{the_field_send as room_send}
use Rattle.goroutine_vm.proofs.sleeping.Sleeping.TheSendSync.{the_send as sleeping_send}
use Rattle.goroutine_vm.proofs.state.GoState.TheSendSync.{the_send as state_send}
use Rattle.goroutine_vm_request.proofs.lists.RequestLists.TheSendSync.{the_field_send as lists_send}
use Rattle.slab.proofs.Slab.TheSendSync.{the_send as slab_send}
use Rattle.slot_index.proofs.numbered_keys.NumberedKeys.TheSendSync.{the_send as keys_send}
use Rattle.sleep_queue.proofs.owners.Owners.TheSendSync.{the_send as owners_send}
use Rattle.sleep_queue.proofs.rings.Rings.TheSendSync.{the_send as rings_send}
use Rattle.sleep_queue.specs.contracts.offer.Kept as Kept
use Rattle.sleep_queue.specs.contracts.offer.Node as Node
use Rattle.sleep_queue.specs.contracts.offer.Stored as Stored
use Rattle.sleep_queue.specs.contracts.queues.SleepQueues as SleepQueues
use Rattle.sleep_queue.specs.contracts.queues.SleepQueues.TheInside as queues
use Rattle.verifier.proofs.verified.Verified.TheSendSync.{the_send as verified_send, the_sync as verified_sync}
use Rattle.word.proofs.end.End.TheSendSync.{the_send as end_send}
use Rattle.word.proofs.request.Event.TheSendSync.{the_field_send as event_send}
use Rattle.word.proofs.value.Item.TheSendSync.{the_send as item_send}
use Rattle.logical_clock.proofs.clock.Clock.TheSendSync.{the_send as clock_send}
use Rattle.awake_rows.proofs.orders.Orders.TheSendSync.{the_field_send as orders_send}
use Rattle.awake_rows.proofs.slot.Ahead.TheSendSync.{the_field_send as ahead_send}
use Rattle.awake_rows.specs.contracts.goroutine.Goroutine as Goroutine
use Rattle.awake_rows.specs.contracts.goroutines.Goroutines as Goroutines
use Rattle.awake_rows.specs.contracts.goroutines.Goroutines.TheInside as goroutines
use Rattle.slot_index.proofs.index.SlotIndex.TheSendSync.{the_send as index_send}
use Rattle.world_core_base.specs.contracts.core_model.Core as Core
use Rattle.world_core_base.specs.contracts.core_model.Core.TheInside as core
use Rattle.world_core_base.specs.contracts.situation.Situation as Situation
use Rattle.world_core_base.specs.contracts.situation.Situation.TheInside as situation
use Rattle.world_core_base.specs.contracts.spare.Spare as Spare
use Rattle.awake_rows.specs.contracts.slot.Held as Held
use Rattle.awake_rows.specs.contracts.slot.Slot as Slot
use Rattle.awake_rows.specs.contracts.slot.Slot.TheInside as slot
use Rattle.book.specs.declared.name.BookName.{Ghosts as BookGhosts}
use Rattle.worker_pool.specs.contracts.locked.Locked as Locked
use Rattle.book.specs.contracts.run_book.RunBook as RunBook
use Rattle.book.specs.contracts.run_name.OfRun as OfRun
use Rattle.book.specs.contracts.run_name.OfRunBookName.TheImpl.{ghosts, no_dict}
use Rattle.worker_pool.specs.contracts.shared.Shared as Shared
use Rattle.workers.proofs.signals.Signals.TheSendSync.{the_field_send as signals_send}
use Rattle.workers.proofs.work_queues.WorkQueues.TheSendSync.{the_send as work_queues_send}
use Rattle.workers.specs.contracts.work_queues.WorkQueues as WorkQueues
use Rattle.book.specs.declared.run_name.RunName.{Ghosts}

held_send : IsSend Held.the_field.row
held_send = enum_send (enum.shape Held.the_type) ((search (sendable, crosses, state_send) depth 20, tt), ((search (sendable, crosses) depth 20, tt), ((search (sendable, crosses, ahead_send) depth 20, tt), tt)))

slot_inside : IsSend slot.the_row
slot_inside = recorded_send slot.the_field.row _ _ slot.the_type.to_one (struct_send (shape slot.the_type) (held_send, (search (sendable, crosses, clock_send) depth 20, (search sendable, tt))))

slot_send : IsSend Slot.the_row
slot_send = view_send _ _ _ _ _ slot_inside

goroutine_send : IsSend Goroutine.the_field.row
goroutine_send = enum_send (enum.shape Goroutine.the_type) ((slot_send, tt), ((sleeping_send, tt), tt))

goroutines_inside : IsSend goroutines.the_row
goroutines_inside = recorded_send goroutines.the_field.row _ _ goroutines.the_type.to_one (struct_send (shape goroutines.the_type) (search sendable, (index_send, (search (sendable, crosses, goroutine_send) depth 20, (orders_send, tt)))))

goroutines_send : IsSend Goroutines.the_row
goroutines_send = view_send _ _ _ _ _ goroutines_inside

sleeper_inside : IsSend sleeper.the_row
sleeper_inside = recorded_send sleeper.the_field.row _ _ sleeper.the_type.to_one (struct_send (shape sleeper.the_type) (search sendable, (search (sendable, crosses), tt)))

sleeper_send : IsSend Sleeper.the_row
sleeper_send = view_send _ _ _ _ _ sleeper_inside

order_inside : IsSend order.the_row
order_inside = recorded_send order.the_field.row _ _ order.the_type.to_one (struct_send (shape order.the_type) (search (sendable, crosses), tt))

order_send : IsSend Order.the_row
order_send = view_send _ _ _ _ _ order_inside

stored_send : IsSend Stored.the_field.row
stored_send = struct_send (shape Stored.the_type) (search sendable, (search (sendable, crosses), tt))

kept_send : IsSend Kept.the_field.row
kept_send = struct_send (shape Kept.the_type) (search sendable, (search sendable, (search sendable, (search (sendable, crosses, stored_send) depth 20, tt))))

node_send : IsSend Node.the_field.row
node_send = struct_send (shape Node.the_type) (search sendable, (search sendable, (kept_send, tt)))

queues_inside : IsSend queues.the_row
queues_inside =
    recorded_send queues.the_field.row _ _ queues.the_type.to_one (struct_send (shape queues.the_type) (
      search (sendable, crosses),
      (
        search (sendable, crosses, slab_send, node_send) depth 20,
        (
          search (sendable, crosses, slab_send, item_send) depth 20,
          (search sendable, (rings_send, (search (sendable, crosses) depth 20, (rings_send, (owners_send, tt))))),
        ),
      ),
    ))

queues_send : IsSend SleepQueues.the_row
queues_send = view_send _ _ _ _ _ queues_inside

sleepers_inside : IsSend sleepers.the_row
sleepers_inside =
    recorded_send sleepers.the_field.row _ _ sleepers.the_type.to_one (struct_send (shape sleepers.the_type) (
      search (sendable, crosses),
      (search (sendable, crosses, slab_send, sleeper_send) depth 20, (keys_send, (queues_send, (order_send, tt)))),
    ))

sleepers_send : IsSend Sleepers.the_row
sleepers_send = view_send _ _ _ _ _ sleepers_inside

channels_inside : IsSend channels.the_row
channels_inside =
    recorded_send channels.the_field.row _ _ channels.the_type.to_one (struct_send (shape channels.the_type) (
      search (sendable, crosses),
      (search (sendable, crosses, channel_send) depth 20, (sleepers_send, tt)),
    ))

channels_send : IsSend Channels.the_row
channels_send = view_send _ _ _ _ _ channels_inside

situation_inside : IsSend situation.the_row
situation_inside =
    recorded_send situation.the_field.row _ _ situation.the_type.to_one (struct_send (shape situation.the_type) (
      goroutines_send,
      (channels_send, (search sendable, (search sendable, (search (sendable, end_send) depth 20, tt)))),
    ))

situation_send : IsSend Situation.the_row
situation_send = view_send _ _ _ _ _ situation_inside

spare_send : IsSend Spare.the_field.row
spare_send = struct_send (shape Spare.the_type) (search (sendable, crosses, room_send) depth 20, (search (sendable, crosses, state_send) depth 20, (search (sendable, crosses, woken_send) depth 20, (lists_send, tt))))

core_inside : IsSend core.the_row
core_inside = recorded_send core.the_field.row _ _ core.the_type.to_one (struct_send (shape core.the_type) (situation_send, (spare_send, tt)))

core_send : IsSend Core.the_row
core_send = view_send _ _ _ _ _ core_inside

book_inside : (B : RattleType) (g : BookGhosts B.Denot) → IsSend (book.the_row B g)
book_inside B g = recorded_send (book.the_field B g).row _ _ (book.the_type B g).to_one (struct_send (shape (book.the_type B g)) (
  search sendable,
  (
    search (sendable, crosses, verified_send, verified_sync) depth 20,
    (
      search sendable,
      (
        core_send,
        (
          search sendable,
          (
            search (sendable, crosses) depth 20,
            (search sendable, (search sendable, (search (sendable, crosses) depth 20, (slots_send B g, tt)))),
          ),
        ),
      ),
    ),
  ),
))

book_send : (B : RattleType) (g : BookGhosts B.Denot) → IsSend (Book.the_row B g)
book_send B g = view_send _ _ _ _ _ (book_inside B g)

locked_send : (B : RattleType) (g : Ghosts B.Denot) → IsSend B → IsSend (Locked.the_row B g)
locked_send B g s =
    recorded_send (Locked.the_field B g).row _ _ (Locked.the_type B g).to_one (struct_send (shape (Locked.the_type B g)) (
      struct_send (shape (RunBook.the_type B g)) (book_send (OfRun.the_row B) _, (event_send, tt)),
      (ledger.the_send _ _, (ledger.the_send _ _, (signals_send, tt))),
    ))

pub shared_sync : (B : RattleType) (g : Ghosts B.Denot) → IsSend B → IsSync (Shared.the_row B g)
shared_sync B g s =
    let d : IsSend (Locked.the_row B g) = locked_send B g s in
    let m : IsSync (Mutex.the_row (Locked.the_row B g)) = search (sendable, crosses, d) depth 20 in
    recorded_sync (Shared.the_field B g).row _ _ (Shared.the_type B g).to_one (struct_sync (shape (Shared.the_type B g)) (
      m,
      (
        search (sendable, crosses) depth 20,
        (search (sendable, crosses) depth 20, (search (sendable, crosses) depth 20, (search (sendable, crosses) depth 20, (search (sendable, crosses) depth 20, tt)))),
      ),
    ))

lease_inside : (B : RattleType) (g : BookGhosts B.Denot) → IsSend (lease.the_row B g)
lease_inside B g = recorded_send (lease.the_field B g).row _ _ (lease.the_type B g).to_one (struct_send (shape (lease.the_type B g)) (
  search sendable,
  (
    search (sendable, crosses, verified_send, verified_sync) depth 20,
    (
      search sendable,
      (
        search sendable,
        (
          search (sendable, crosses),
          (search (sendable, crosses, state_send) depth 20, (search sendable, (seat_send, (search sendable, tt)))),
        ),
      ),
    ),
  ),
))

lease_send : (B : RattleType) (g : BookGhosts B.Denot) → IsSend (Lease.the_row B g)
lease_send B g = view_send _ _ _ _ _ (lease_inside B g)

-- a lease of the run of this name
abbrev lease_row : (B : RattleType) → Ghosts B.Denot → RattleType
lease_row B g = Lease.the_row (OfRun.the_row B) (ghosts B g no_dict)

run_lease_send : (B : RattleType) (g : Ghosts B.Denot) → IsSend (lease_row B g)
run_lease_send B g = lease_send (OfRun.the_row B) (ghosts B g no_dict)

pub queues_of_worker_send : (B : RattleType) (g : Ghosts B.Denot) → IsSend (WorkQueues.the_row (lease_row B g))
queues_of_worker_send B g = work_queues_send (lease_row B g) (run_lease_send B g)
