-- What sections say of PDOs, without where it lies in memory.
use Rattle.co_sheet_adapt.specs.declared.compact_pdo.PdoForm.{PdoForm as CodeForm}
use Rattle.co_sheet_adapt.specs.CompactPdo.{PdoForm}

abbrev pub form_view : CodeForm → PdoForm
form_view f = record {
  subs = f.subs;
  listed = f.listed;
  absent = f.absent.items;
  unlisted = f.unlisted.items;
}
