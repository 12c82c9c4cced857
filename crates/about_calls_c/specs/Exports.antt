-- The code tied to the theorem: what the contract of each exported function that takes or makes a unit says of its result. Those that a list from C calls say the step
-- that the theorem runs, and `jag_install` what a list from C begins with; `jag_check` and `jag_request` stand beside the lists. `Learnt` is a function's contract as
-- a caller gets it: the `ensures` lines of crates/jagwelu/src/lib.rt themselves, and no copy of them. The exported functions on files are in
-- crates/about_bodies_c/specs/Exports.antt, the unit's own step in crates/about_calls/specs/AnyCall.antt.
use Rattle.std.specs.Prelude.{ℕ, ◌≡◌, List, length}
use denote.Triple.Clauses.{Lasts, at_exit}
use Rattle.rules.specs.Machine.{tick, clock_lost, file_taken, response_taken, failure, due, ceiling_of, command, free_blocks}
use Rattle.rules.specs.Writer.{written_of, buffer_after}
use Rattle.rules.specs.declared.Kind.{Kind}
use Rattle.unit.specs.Request.{request_of}
use Rattle.c_structs.specs.Held.{settings_in, opened}
use Rattle.c_answers.specs.Answers.{written_numbers}
use Rattle.c_structs.specs.declared.HeldSettings.{HeldSettings}
use Rattle.c_structs.specs.declared.HeldUnit.{HeldUnit}
use Rattle.c_structs.specs.declared.Handed.{Handed}
use Rattle.c_answers.specs.declared.Number.{Number}
use Rattle.c_answers.specs.declared.DueAnswer.{DueAnswer}
use Rattle.c_answers.specs.declared.CeilingAnswer.{CeilingAnswer}
use Rattle.c_answers.specs.declared.WrittenBytes.{WrittenBytes}
use Rattle.jagwelu.specs.Check.{check_number}
use Rattle.about_calls_c.specs.Lists.{HeldState, handed_step, due_means, ceiling_means, command_means, blocks_means, held_step, held_install}
use Rattle.jagwelu.proofs.jag_install.Reads as jag-install
use Rattle.jagwelu.specs.contracts.jag_tick as ticking
use Rattle.jagwelu.proofs.jag_tick.Reads as jag-tick
use Rattle.jagwelu.proofs.jag_clock_lost.Reads as jag-clock-lost
use Rattle.jagwelu.specs.contracts.jag_take_file as taking
use Rattle.jagwelu.proofs.jag_take_file.Reads as jag-take-file
use Rattle.jagwelu.specs.contracts.jag_take_response as responding
use Rattle.jagwelu.proofs.jag_take_response.Reads as jag-take-response
use Rattle.jagwelu.proofs.jag_update_failed.Reads as jag-update-failed
use Rattle.jagwelu.proofs.jag_fixed_failed.Reads as jag-fixed-failed
use Rattle.jagwelu.proofs.jag_due.Reads as jag-due
use Rattle.jagwelu.specs.contracts.jag_ceiling as ceiling
use Rattle.jagwelu.proofs.jag_ceiling.Reads as jag-ceiling
use Rattle.jagwelu.proofs.jag_command.Reads as jag-command
use Rattle.jagwelu.proofs.jag_free_blocks.Reads as jag-free-blocks
use Rattle.jagwelu.proofs.jag_check.Reads as jag-check
use Rattle.jagwelu.specs.contracts.jag_request as requesting
use Rattle.jagwelu.proofs.jag_request.Reads as jag-request

abbrev pub held_with : HeldUnit → List ℕ → HeldState
held_with u store = record { unit = u; store = store }

-- for all that a function is given and whatever it returns (r): where its contract holds of these, they are the step's. What is lent as `&mut` has some last
-- value (w); e is what a caller sees of the parameters afterwards, the store among them: as it was, where it is lent as `&`
pub record EachSays : Type 0 where
  pub install : (κs : _) (id mac : _) (given : HeldSettings) (r : Handed) (e : _) → jag-install.Learnt κs (id, (mac, (given, tt))) r e
      → r ≡ held_install id.now mac.now (settings_in given)
  pub ticks : (κs : _) (u : HeldUnit) (t : ℕ) (store : _) (r : Handed) (w : Lasts ticking.ended κs (u, (t, (store, tt))))
      → let e = at_exit ticking.ended κs (u, (t, (store, tt))) w in
      jag-tick.Learnt κs (u, (t, (store, tt))) r e
      → handed_step r e.1.1.0.now ≡ held_step (tick t) (held_with u store.now)
  pub lost : (κs : _) (u : HeldUnit) (store : List ℕ) (r : Handed) (e : _) → jag-clock-lost.Learnt κs (u, tt) r e
      → handed_step r store ≡ held_step clock_lost (held_with u store)
  pub taken : (κs : _) (u : HeldUnit) (name body store : _) (r : Handed) (w : Lasts taking.ended κs (u, (name, (body, (store, tt)))))
      → let e = at_exit taking.ended κs (u, (name, (body, (store, tt)))) w in
      jag-take-file.Learnt κs (u, (name, (body, (store, tt)))) r e
      → handed_step r e.1.1.1.0.now ≡ held_step (file_taken name.now body.now) (held_with u store.now)
  pub responses : (κs : _) (u : HeldUnit) (boundary bytes store : _) (r : Handed) (w : Lasts responding.ended κs (u, (boundary, (bytes, (store, tt)))))
      → let e = at_exit responding.ended κs (u, (boundary, (bytes, (store, tt)))) w in
      jag-take-response.Learnt κs (u, (boundary, (bytes, (store, tt)))) r e
      → handed_step r e.1.1.1.0.now ≡ held_step (response_taken boundary.now bytes.now) (held_with u store.now)
  pub update : (κs : _) (u : HeldUnit) (status : ℕ) (store : List ℕ) (r : Handed) (e : _) → jag-update-failed.Learnt κs (u, (status, tt)) r e
      → handed_step r store ≡ held_step (failure Kind.Update status) (held_with u store)
  pub fixed : (κs : _) (u : HeldUnit) (status : ℕ) (store : List ℕ) (r : Handed) (e : _) → jag-fixed-failed.Learnt κs (u, (status, tt)) r e
      → handed_step r store ≡ held_step (failure Kind.Fixed status) (held_with u store)
  pub dues : (κs : _) (u : HeldUnit) (store : List ℕ) (r : DueAnswer) (e : _) → jag-due.Learnt κs (u, tt) r e
      → (due_means r, held_with u store) ≡ held_step due (held_with u store)
  pub ceilings : (κs : _) (u : HeldUnit) (slot : ℕ) (store : _) (r : CeilingAnswer) (w : Lasts ceiling.ended κs (u, (slot, (store, tt))))
      → let e = at_exit ceiling.ended κs (u, (slot, (store, tt))) w in
      jag-ceiling.Learnt κs (u, (slot, (store, tt))) r e
      → (ceiling_means r, held_with u e.1.1.0.now) ≡ held_step (ceiling_of slot) (held_with u store.now)
  pub commands : (κs : _) (u : HeldUnit) (store : List ℕ) (r : Number) (e : _) → jag-command.Learnt κs (u, tt) r e
      → (command_means r, held_with u store) ≡ held_step command (held_with u store)
  pub blocks : (κs : _) (u : HeldUnit) (store : List ℕ) (r : Number) (e : _) → jag-free-blocks.Learnt κs (u, tt) r e
      → (blocks_means r, held_with u store) ≡ held_step free_blocks (held_with u store)
  -- beside the lists: a unit and a store looked at, and a request
  pub checked : (κs : _) (u : HeldUnit) (store : _) (r : ℕ) (e : _) → jag-check.Learnt κs (u, (store, tt)) r e
      → r ≡ check_number (opened u) store.now
  pub requested : (κs : _) (u : HeldUnit) (segment out : _) (r : WrittenBytes) (w : Lasts requesting.ended κs (u, (segment, (out, tt))))
      → let e = at_exit requesting.ended κs (u, (segment, (out, tt))) w in
      let o = request_of (opened u) segment.now (length out.now) in
      jag-request.Learnt κs (u, (segment, (out, tt))) r e
      → (r ≡ written_numbers (written_of o)) × (e.1.1.0.now ≡ buffer_after o out.now)

abbrev pub ExportsSay : Type 0
ExportsSay = EachSays

-- and none of them asks anything of its caller: what `Asked`, the contract's `requires`, says holds of all values
pub record EachAsks : Type 0 where
  pub install : (κs : _) (a : _) → jag-install.Asked κs a
  pub ticks : (κs : _) (a : _) → jag-tick.Asked κs a
  pub lost : (κs : _) (a : _) → jag-clock-lost.Asked κs a
  pub taken : (κs : _) (a : _) → jag-take-file.Asked κs a
  pub responses : (κs : _) (a : _) → jag-take-response.Asked κs a
  pub update : (κs : _) (a : _) → jag-update-failed.Asked κs a
  pub fixed : (κs : _) (a : _) → jag-fixed-failed.Asked κs a
  pub dues : (κs : _) (a : _) → jag-due.Asked κs a
  pub ceilings : (κs : _) (a : _) → jag-ceiling.Asked κs a
  pub commands : (κs : _) (a : _) → jag-command.Asked κs a
  pub blocks : (κs : _) (a : _) → jag-free-blocks.Asked κs a
  pub checked : (κs : _) (a : _) → jag-check.Asked κs a
  pub requested : (κs : _) (a : _) → jag-request.Asked κs a

abbrev pub ExportsAsk : Type 0
ExportsAsk = EachAsks
