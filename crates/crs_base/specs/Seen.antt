-- What the program's entries are as those of the definitions, with the numbers of symbols.
use Rattle.crs_base.specs.declared.symbols.Sym.{Sym}
use Rattle.crs_base.specs.declared.entry.Entry.{Entry as CodeEntry}
use Rattle.crs_base.specs.Entry.{Entry}

abbrev pub entry_of : CodeEntry → Entry Sym
entry_of e = record { arrival = e.arrival; date = e.date; name = e.name; args = e.args; change = e.change; text = e.text }
