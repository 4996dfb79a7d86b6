use Rattle.co_node_device.proofs.mappings.CompiledMappings.note.Goals as goal

pub returns-clause-mappings : goal.returns-clause-mappings
returns-clause-mappings g c = λ before old agree. record {
  rpdos = c.note.ensures.table before old.rpdos agree;
  tpdos = c.note-2.ensures.table before old.tpdos agree;
}
