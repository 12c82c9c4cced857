-- Each exported contract is the step from C: where a contract in crates/jagwelu is changed, this is refused.
use mathlib.Core.Path.{ap, ap₂}
use Rattle.c_structs.specs.declared.Handed.{Handed}
use Rattle.c_answers.specs.declared.Number.{Number}
use Rattle.c_answers.specs.declared.DueAnswer.{DueAnswer}
use Rattle.c_answers.specs.declared.CeilingAnswer.{CeilingAnswer}
use Rattle.about_calls_c.specs.Lists.{handed_step, due_means, ceiling_means, command_means, blocks_means, held_step}
use Rattle.about_calls_c.specs.Exports.{held_with, ExportsSay, ExportsAsk}

pub exports_say : ExportsSay
unfolding held_step
exports_say = record {
  install = λ κs id mac given r e said. said;
  ticks = λ κs u t store r w said. ap (λ (h : Handed). handed_step h store.now) said;
  lost = λ κs u store r e said. ap (λ (h : Handed). handed_step h store) said;
  taken = λ κs u name body store r w said. ap₂ handed_step said.0 said.1;
  responses = λ κs u boundary bytes store r w said. ap₂ handed_step said.0 said.1;
  update = λ κs u status store r e said. ap (λ (h : Handed). handed_step h store) said;
  fixed = λ κs u status store r e said. ap (λ (h : Handed). handed_step h store) said;
  dues = λ κs u store r e said. ap (λ (a : DueAnswer). (due_means a, held_with u store)) said;
  ceilings = λ κs u slot store r w said. ap (λ (a : CeilingAnswer). (ceiling_means a, held_with u store.now)) said;
  commands = λ κs u store r e said. ap (λ (a : Number). (command_means a, held_with u store)) said;
  blocks = λ κs u store r e said. ap (λ (a : Number). (blocks_means a, held_with u store)) said;
  checked = λ κs u store r e said. said;
  requested = λ κs u segment out r w said. said;
}

pub exports_ask : ExportsAsk
exports_ask = record {
  install = λ κs a. tt;
  ticks = λ κs a. tt;
  lost = λ κs a. tt;
  taken = λ κs a. tt;
  responses = λ κs a. tt;
  update = λ κs a. tt;
  fixed = λ κs a. tt;
  dues = λ κs a. tt;
  ceilings = λ κs a. tt;
  commands = λ κs a. tt;
  blocks = λ κs a. tt;
  checked = λ κs a. tt;
  requested = λ κs a. tt;
}
