pub mod RosterLemmas
