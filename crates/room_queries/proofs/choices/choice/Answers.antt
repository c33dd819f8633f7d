use Rattle.room_queries.proofs.Chosen.{asks_as, vram_found, tt_found}
use Rattle.room_queries.proofs.choices.choice.Goals as goal

pub choose_vram-requires-clause-some : goal.choose_vram-requires-clause-some
choose_vram-requires-clause-some c = (asks_as c.args.script.now c.args.before.now c.args.parts.now c.requires.held c.args.b c.requires.declared c.declared_pages-pages.result c.declared_align-align.result c.declared_pages-pages.ensures c.declared_align-align.ensures).some

pub choose_vram-requires-clause-aligned : goal.choose_vram-requires-clause-aligned
choose_vram-requires-clause-aligned c = (asks_as c.args.script.now c.args.before.now c.args.parts.now c.requires.held c.args.b c.requires.declared c.declared_pages-pages.result c.declared_align-align.result c.declared_pages-pages.ensures c.declared_align-align.ensures).aligned

pub choose_vram-requires-clause-most : goal.choose_vram-requires-clause-most
choose_vram-requires-clause-most c = (asks_as c.args.script.now c.args.before.now c.args.parts.now c.requires.held c.args.b c.requires.declared c.declared_pages-pages.result c.declared_align-align.result c.declared_pages-pages.ensures c.declared_align-align.ensures).most

pub choose_tt-requires-clause-some : goal.choose_tt-requires-clause-some
choose_tt-requires-clause-some c = (asks_as c.args.script.now c.args.before.now c.args.parts.now c.requires.held c.args.b c.requires.declared c.declared_pages-pages.result c.declared_align-align.result c.declared_pages-pages.ensures c.declared_align-align.ensures).some

pub choose_tt-requires-clause-aligned : goal.choose_tt-requires-clause-aligned
choose_tt-requires-clause-aligned c = (asks_as c.args.script.now c.args.before.now c.args.parts.now c.requires.held c.args.b c.requires.declared c.declared_pages-pages.result c.declared_align-align.result c.declared_pages-pages.ensures c.declared_align-align.ensures).aligned

pub choose_tt-requires-clause-most : goal.choose_tt-requires-clause-most
choose_tt-requires-clause-most c = (asks_as c.args.script.now c.args.before.now c.args.parts.now c.requires.held c.args.b c.requires.declared c.declared_pages-pages.result c.declared_align-align.result c.declared_pages-pages.ensures c.declared_align-align.ensures).most

pub returns-in-Vram-clause-choice : goal.returns-in-Vram-clause-choice
returns-in-Vram-clause-choice c = vram_found c.args.script.now c.args.before.now c.args.parts.now c.requires.held c.args.b c.requires.declared c.args.place.now c.declared_pages-pages.result c.declared_align-align.result c.declared_pages-pages.ensures c.declared_align-align.ensures _ c.in-Vram.is c.choose_vram.ensures.found

pub returns-in-Tt-clause-choice : goal.returns-in-Tt-clause-choice
returns-in-Tt-clause-choice c = tt_found c.args.script.now c.args.before.now c.args.parts.now c.requires.held c.args.b c.requires.declared c.args.place.now c.declared_pages-pages.result c.declared_align-align.result c.declared_pages-pages.ensures c.declared_align-align.ensures _ c.in-Tt.is c.choose_tt.ensures.found
