-- A name for all of the definitions here: to unfold it is to unfold them, so that they compute.
use Rattle.rules.specs.Fetch as Fetch
use Rattle.csv_rules.specs.Quote as Quote
use Rattle.csv_rules.specs.Written as Written
use Rattle.csv_rules.specs.Count as Count
use Rattle.csv_rules.specs.Kanji as Kanji
use Rattle.csv_rules.specs.Columns as Columns
use Rattle.csv_rules.specs.Sheets as Sheets
use Rattle.csv_rules.specs.Spot as Spot

unfoldable pub csv-rules : Unit {0}
unfolding Quote.more Quote.lines_at Quote.cut Quote.is_broken Quote.lines_in Written.quotes_doubled Written.quoted Written.quoted_line Written.file_text Count.numeral Count.counts Count.well_counted Kanji.first Kanji.second Kanji.is_pair Kanji.characters_at Kanji.characters Kanji.good_character Kanji.convertible Kanji.shifted Kanji.converted Columns.family_of Columns.given_of Columns.fifteen_of Columns.meaning_of Columns.type_of Columns.text_at Columns.value_by Columns.columns Columns.keys Columns.number_of Columns.dropped Sheets.same_texts Sheets.differ Sheets.join_run Sheets.runs Sheets.returns Sheets.csv_told Sheets.below Sheets.sheet_rows Sheets.run_told Sheets.bytes_in Sheets.first_row Sheets.csv_count Fetch.ordinal Sheets.csv_sheet Sheets.first_told Sheets.runs_from Sheets.csv_next Sheets.behind_run Sheets.place_after Spot.first_not Spot.first_after Spot.count_line Spot.comes_back Spot.csv_spot
csv-rules = tt
