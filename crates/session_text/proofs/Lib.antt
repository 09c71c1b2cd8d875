mod SessionTexts
