mod Lines
mod Numbers
mod WordLaws
mod WordsRead
