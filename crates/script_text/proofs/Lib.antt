mod ScriptTexts
mod HistoryTexts
